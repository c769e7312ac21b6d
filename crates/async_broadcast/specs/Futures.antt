-- What futures return, by the replies of a port, and what is seen of a task's waker.
use Rattle.std.specs.Prelude.{◌≡◌, ◌⊎◌, ℕ, Bool, List, Option, Some, None, MatchOption, Result, Ok, Err, IfOk, alloc_error}
use Rattle.std.specs.List.{AllByRecursion}
use Rattle.std.specs.declared.alloc.AllocError.{AllocError}
use Rattle.futures.specs.declared.task.Poll.TheVariants as poll
use Rattle.bcast_model.specs.declared.error.NoMemory.{NoMemory}
use Rattle.bcast_model.specs.declared.error.SendError.{SendError}
use Rattle.bcast_model.specs.declared.run.SendPoll.TheVariants as send
use Rattle.bcast_model.specs.declared.run.Call.TheVariants as call
use Rattle.bcast_model.specs.declared.run.Reply.TheVariants as reply
use Rattle.bcast_model.specs.declared.error.RecvError.{RecvError}
use Rattle.bcast_model.specs.declared.run.Call.{Call}
use Rattle.bcast_model.specs.declared.run.Reply.{Reply}

-- what a contract sees of a task's waker between polls
pub record TaskWaker : Type 0 where
  -- whether memory for a notice was refused at the last poll
  pub is_refused : Bool

module _ {T P : Type 0} (gave : P → Call T → Reply T → Type 0) (port : P) where
  -- `broadcast_direct`: the port gave a place
  abbrev pub BeganSend : Option ℕ → Type 0
  BeganSend at =
      (place : ℕ) × (at ≡ Some place) × gave port call.BeginSend (reply.BeginSend (Ok place))

  -- `broadcast` is refused: the port gave no place, or one that was given up again
  abbrev pub RefusedSend : Type 0
  RefusedSend =
      gave port call.BeginSend (reply.BeginSend (Err alloc_error))
      ⊎ ((place : ℕ) × gave port call.BeginSend (reply.BeginSend (Ok place))
      × gave port (call.EndSend place) reply.EndSend)

  -- the port gave this reply to the send's own call: of its place, and this message
  abbrev pub Polled : Option ℕ → T → Reply T → Type 0
  Polled at msg r = (place : ℕ) × (at ≡ Some place) × gave port (call.PollSend place msg) r

  -- what `Send` returns: the port's reply, or that memory for a notice was refused
  abbrev pub GivesSent : Option ℕ → Option T
      → Result (Result (Option T) (SendError T)) (NoMemory T) → Type 0
  GivesSent at kept (Ok answer) =
      (msg : T) × (kept ≡ Some msg) × Polled at msg (reply.PollSend (send.Ready answer))
  GivesSent at kept (Err error) = kept ≡ Some error.0

  -- `Send` is pending: unless it was answered before, the port said that its message must wait
  abbrev pub MustWait : Option ℕ → Option T → Type 0
  MustWait at kept =
      MatchOption at (Unit {0}) (λ place. MatchOption kept (Unit {0})
      (λ msg. gave port (call.PollSend place msg) (reply.PollSend (send.Wait msg))))

  -- what `Recv` returns: the port's reply, or that memory was refused
  abbrev pub GivesReceived : ℕ → Result (Result T RecvError) AllocError → Type 0
  GivesReceived key out =
      IfOk out (λ answer. gave port (call.PollFuture key)
      (reply.PollFuture (Ok (poll.Ready answer))))

  -- an item of the stream: a message of the port, which counts what it skipped, or out of memory
  abbrev pub GivesItem : ℕ → Result T AllocError → Type 0
  GivesItem key item =
      IfOk item (λ msg. (next : T × ℕ) × (msg ≡ next.0)
      × gave port (call.PollNext key) (reply.PollNext (Ok (poll.Ready (Some next)))))

  -- the stream: such items, and the end that the port gave
  abbrev pub YieldsItems : ℕ → List (Result T AllocError) → Option (Result T AllocError) → Type 0
  YieldsItems key items last =
      AllByRecursion (GivesItem key) items
      × MatchOption last (gave port (call.PollNext key) (reply.PollNext (Ok (poll.Ready None))))
      (GivesItem key)
