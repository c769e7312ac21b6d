-- What follows from what calls tell.
use Rattle.std.specs.Prelude.{◌≡◌, ◌⊎◌, ◌≤◌, ℕ, ◌+◌, true, List, [], ◌++◌, length}
use Rattle.std.specs.Prelude.{Option, Some, None, Result, Ok, Err}
use Rattle.std.specs.declared.alloc.AllocError.{AllocError}
use mathlib.Core.List.{IsPrefix}
use Rattle.futures.specs.declared.task.Poll.TheVariants as poll
use Rattle.bcast_model.specs.declared.error.TryRecvError.TheVariants as unread
use Rattle.bcast_model.specs.declared.run.Call.{Call}
use Rattle.bcast_model.specs.declared.run.Reply.{Reply}
use Rattle.bcast_model.specs.Words.{History, cursor_of, end_number, AllFrom, IsDelivery}
use Rattle.bcast_model.specs.Words.{numbered, given_to}
use Rattle.bcast_laws.specs.Sends.{messages_of, is_accepted}
use Rattle.bcast_history.specs.History.{Opening, Step, Follows, IsHistory, end_of, accepted_by}
use Rattle.bcast_history.specs.Reader.{Takes, TakesNext}
use Rattle.bcast_history.specs.Tracker.{Tracker, number}

-- a message that has a number keeps it
abbrev pub MessagesStay : Type 0 → Type 0
MessagesStay T =
    (o : Opening) (known later : List (Step T)) (number : ℕ) (msg : T)
    → IsPrefix known later → numbered (end_of o known) number ≡ Some msg
    → numbered (end_of o later) number ≡ Some msg

-- a call whose messages were accepted: they come last, after all that its caller knew of, and after
-- those that others sent since
abbrev pub SendsStandLast : {T : Type 0} → (T → T → Type 0) → Type 0
SendsStandLast {T} is_clone =
    (o : Opening) (known after : List (Step T)) (call : Call T) (reply : Reply T)
    → Follows is_clone o known call reply after → is_accepted reply ≡ true
    → (earlier : List T) × IsPrefix (accepted_by o known) earlier
    × (accepted_by o after ≡ earlier ++ messages_of call)

-- what a call gives a receiver whose cursor was this: the accepted messages from there on, each the
-- message itself, a clone, or that it is counted as missed. The receiver reads on after them, or it
-- left, and is given nothing
pub record ReadsOn
    {T : Type 0} (is_clone : T → T → Type 0) (before after : History T) (key cursor : ℕ)
    (given : List (Option T)) : Type 0 where
  pub each : AllFrom (IsDelivery is_clone before) cursor given
  pub next : (cursor_of after.control key ≡ Some (cursor + length given))
      ⊎ ((cursor_of after.control key ≡ None) × (given ≡ []))

-- a call reads on for each receiver, from where that was before the call
abbrev pub ReceiversReadOn : {T : Type 0} → (T → T → Type 0) → Type 0
ReceiversReadOn {T} is_clone =
    (o : Opening) (known after : List (Step T)) (call : Call T) (reply : Reply T) (key cursor : ℕ)
    → (follows : Follows is_clone o known call reply after)
    → cursor_of (end_of o follows.before).control key ≡ Some cursor
    → ReadsOn is_clone (end_of o follows.before) (end_of o after) key cursor
    (given_to key call reply)

-- the channel is closed, and the receiver has read all of it, as far as it has seen
pub record HasReadAll {T : Type 0} (o : Opening) (r : Tracker T) : Type 0 where
  pub closed : (end_of o r.steps).control.closed ≡ true
  pub all : end_number (end_of o r.steps) ≤ number r.next

module _ {T : Type 0} (is_clone : T → T → Type 0) where
  -- once a receive has found `last`, the receiver has read all, and each later one finds the like
  pub record IsLast
      {Found : Type 0}
      (takes : Opening → Tracker T → Tracker T → Result Found AllocError → Type 0)
      (last : Found) (Later : Result Found AllocError → Type 0) : Type 0 where
    pub said : (o : Opening) (old new : Tracker T) → takes o old new (Ok last) → HasReadAll o new
    pub stays : (o : Opening) (old new : Tracker T) (found : Result Found AllocError)
        → HasReadAll o old → IsPrefix old.steps new.steps → IsHistory is_clone o new.steps
        → takes o old new found → HasReadAll o new × Later found

  -- after `Closed` there is nothing else
  abbrev pub ClosedIsLast : Type 0
  ClosedIsLast =
      IsLast (Takes is_clone) (Err unread.Closed) (λ found. found ≡ Ok (Err unread.Closed))

  -- after the end of a stream there is nothing else, if memory isn't refused
  abbrev pub EndIsLast : Type 0
  EndIsLast =
      IsLast (TakesNext is_clone) (poll.Ready None)
      (λ found. (found ≡ Ok (poll.Ready None)) ⊎ (error : AllocError) × (found ≡ Err error))
