-- Events for subscribers that come and go.
use Rattle.std.specs.Prelude.{◌≡◌, ◌≤◌, ℕ, false, [], Option, Result, Ok}
use Rattle.std.specs.Result.{result_ok}
use Rattle.std.specs.FinMap.{len}
use Rattle.bcast_model.specs.declared.run.Call.TheVariants as call
use Rattle.bcast_model.specs.declared.run.Reply.TheVariants as reply
use Rattle.bcast_model.specs.declared.error.TryRecvError.{TryRecvError}
use Rattle.bcast_model.specs.Words.{View, opening, NoClone, Answers, Represents}

module _ {E : Type 0} where
  -- a full hub refuses, and the hub itself has a sender and an inactive receiver, which keep the
  -- channel open
  pub record IsHub (v : View E) : Type 0 where
    pub overflow : v.control.overflow ≡ false
    pub sender : 1 ≤ v.control.senders
    pub inactive : 1 ≤ v.control.inactive

  -- `broadcast`, then `deactivate`: an open hub of this capacity, without events or subscribers
  pub record IsOpened (v : View E) (asked : ℕ) : Type 0 where
    pub capacity : v.control.capacity ≡ asked
    pub closed : v.control.closed ≡ false
    pub queue : v.queue ≡ []
    pub subscribers : len v.control.cursors ≡ 0
    pub made : View E
    pub first : ℕ
    pub opened : Represents made (opening asked 0 first)
    pub left : Answers NoClone made (call.Deactivate first) (reply.Deactivate (Ok tt)) v

  -- `try_recv`: a reply to this subscriber, read as an event or none
  pub record IsNextEvent
      (is_clone : E → E → Type 0) (old : View E) (subscriber : ℕ) (found : Option E)
      (new : View E) : Type 0 where
    pub received : Result E TryRecvError
    pub event : found ≡ result_ok received
    pub answers : Answers is_clone old (call.TryRecv subscriber) (reply.TryRecv (Ok received)) new
