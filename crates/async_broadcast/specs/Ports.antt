-- How handles use ports and replies.
use Rattle.std.specs.Prelude.{◌↔◌, ℕ, Bool, true, false, Option, Some, None, Result, Ok, Err}
use Rattle.std.specs.declared.alloc.AllocError.{AllocError}
use Rattle.bcast_model.specs.declared.error.RecvError.TheVariants as unreceived
use Rattle.bcast_model.specs.declared.error.TryRecvError.TheVariants as unread
use Rattle.bcast_model.specs.declared.run.SendPoll.TheVariants as send
use Rattle.bcast_model.specs.declared.run.Call.TheVariants as call
use Rattle.bcast_model.specs.declared.run.Reply.TheVariants as reply
use Rattle.bcast_model.specs.declared.error.RecvError.{RecvError}
use Rattle.bcast_model.specs.declared.run.Call.{Call}
use Rattle.bcast_model.specs.declared.run.Reply.{Reply}
use Rattle.bcast_model.specs.Words.{View, IsShown, Found}
use Rattle.bcast_core.specs.declared.snapshot.Snapshot.{Snapshot}
use Rattle.bcast_core.specs.Snapshot.{Shows}

-- `Sender::clone` and the like: this port may give exactly the replies that the other may give
abbrev pub IsSame : {T P : Type 0} → (P → Call T → Reply T → Type 0) → P → P → Type 0
IsSame {T} {P} gave port other =
    (call : Call T) (reply : Reply T) → gave port call reply ↔ gave other call reply

-- the port gave this reply to this call, and that is what its caller learned
abbrev pub Gives : {T P K : Type 0} → (P → Call T → Reply T → Type 0)
    → (K → Call T → Reply T → K → Type 0) → P → K → Call T → Reply T → K → Type 0
Gives gave learns port before call reply after =
    gave port call reply × learns before call reply after

-- `snapshot`: what some valid history shows, with a clone of each message
abbrev pub ShowsSomeState : {T A : Type 0} → (T → T → Type 0) → Snapshot T A → Type 0
ShowsSomeState {T} is_clone s = (v : View T) × IsShown v × Shows is_clone s v

-- `recv_blocking`: its result, as `try_recv` returns it
abbrev pub as_try_recv : {T : Type 0} → Result (Result T RecvError) AllocError → Found T
as_try_recv (Ok (Ok msg)) = Ok (Ok msg)
as_try_recv (Ok (Err (unreceived.Overflowed n))) = Ok (Err (unread.Overflowed n))
as_try_recv (Ok (Err unreceived.Closed)) = Ok (Err unread.Closed)
as_try_recv (Err error) = Err error

-- a reply that ends the waiting
abbrev pub is_answer : {T : Type 0} → Reply T → Bool
is_answer (reply.AttemptSend (send.Wait msg)) = false
is_answer (reply.TryRecv (Ok (Err unread.Empty))) = false
is_answer other = true

-- the receiver that a call moves, or takes from the channel, if it is one that may
abbrev pub moved_by : {T : Type 0} → Call T → Option ℕ
moved_by (call.TryRecv key) = Some key
moved_by (call.PollFuture key) = Some key
moved_by (call.PollRecv key) = Some key
moved_by (call.PollNext key) = Some key
moved_by (call.Deactivate key) = Some key
moved_by (call.DropReceiver key) = Some key
moved_by other = None
