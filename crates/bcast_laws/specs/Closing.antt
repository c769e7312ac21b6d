-- What calls on a closed channel return.
use Rattle.std.specs.Prelude.{◌≡◌, ℕ, true, List, None, Ok, Err}
use Rattle.futures.specs.declared.task.Poll.TheVariants as poll
use Rattle.bcast_model.specs.declared.error.TrySendError.TheVariants as unsent
use Rattle.bcast_model.specs.declared.error.TryRecvError.TheVariants as unread
use Rattle.bcast_model.specs.declared.error.RecvError.TheVariants as unreceived
use Rattle.bcast_model.specs.declared.run.SendPoll.TheVariants as send
use Rattle.bcast_model.specs.declared.run.Call.{Call}
use Rattle.bcast_model.specs.declared.run.Call.TheVariants as call
use Rattle.bcast_model.specs.declared.run.Reply.{Reply}
use Rattle.bcast_model.specs.declared.run.Reply.TheVariants as reply
use Rattle.bcast_model.specs.Words.{has_place, View, History, Legal, IsValidView, end_of_run}

-- no calls open a closed channel, and each send on it is refused with its message
pub record StaysClosed {T : Type 0} (is_clone : T → T → Type 0) : Type 0 where
  pub stays : (h : History T) (calls : List (Call T)) (replies : List (Reply T))
      → h.control.closed ≡ true → (end_of_run h calls replies).control.closed ≡ true
  pub try_broadcast : (v : View T) (msg : T) (r : Reply T) → v.control.closed ≡ true
      → Legal is_clone v (call.TryBroadcast msg) r
      → r ≡ reply.TryBroadcast (Err (unsent.Closed msg))
  pub try_broadcast_all : (v : View T) (msgs : List T) (r : Reply T) → v.control.closed ≡ true
      → Legal is_clone v (call.TryBroadcastAll msgs) r
      → r ≡ reply.TryBroadcastAll (Err (unsent.Closed msgs))
  pub attempt_send : (v : View T) (msg : T) (r : Reply T) → v.control.closed ≡ true
      → Legal is_clone v (call.AttemptSend msg) r
      → r ≡ reply.AttemptSend (send.Ready (Err (record { 0 = msg })))
  pub poll_send : (v : View T) (place : ℕ) (msg : T) (r : Reply T) → v.control.closed ≡ true
      → has_place v.control place ≡ true → Legal is_clone v (call.PollSend place msg) r
      → r ≡ reply.PollSend (send.Ready (Err (record { 0 = msg })))

-- the receives of this receiver return that the channel is closed, and nothing else
pub record AnswersClosed
    {T : Type 0} (is_clone : T → T → Type 0) (v : View T) (key : ℕ) (r : Reply T) : Type 0 where
  pub try_recv : Legal is_clone v (call.TryRecv key) r → r ≡ reply.TryRecv (Ok (Err unread.Closed))
  pub poll_future : Legal is_clone v (call.PollFuture key) r
      → r ≡ reply.PollFuture (Ok (poll.Ready (Err unreceived.Closed)))
  pub poll_recv : Legal is_clone v (call.PollRecv key) r → r ≡ reply.PollRecv (Ok (poll.Ready None))
  pub poll_next : Legal is_clone v (call.PollNext key) r → r ≡ reply.PollNext (Ok (poll.Ready None))

-- if `is_terminated` returns true, each receive returns that the channel is closed
abbrev pub TerminatedGivesNothing : {T : Type 0} → (T → T → Type 0) → Type 0
TerminatedGivesNothing {T} is_clone =
    (v : View T) (key : ℕ) (r : Reply T) → IsValidView v
    → Legal is_clone v call.IsTerminated (reply.IsTerminated true) → AnswersClosed is_clone v key r
