-- What receives return, and how many messages are kept.
use Rattle.std.specs.Prelude.{◌≡◌, ◌≢◌, ℕ, ◌≤◌, true, [], length, IsOk, Ok, Err}
use Rattle.std.specs.FinMap.{len}
use Rattle.bcast_model.specs.declared.error.TryRecvError.TheVariants as unread
use Rattle.bcast_model.specs.declared.run.Call.{Call}
use Rattle.bcast_model.specs.declared.run.Call.TheVariants as call
use Rattle.bcast_model.specs.declared.run.Reply.{Reply}
use Rattle.bcast_model.specs.declared.run.Reply.TheVariants as reply
use Rattle.bcast_model.specs.Words.{cursor_of, View, History, view_of, try_recv_reply, Legal, next}
use Rattle.bcast_model.specs.Words.{IsValid, IsValidView, receives_for}

-- `len` is never over `capacity`, and no message is kept if there is no receiver
pub record KeepsAtMostCapacity {T : Type 0} (is_clone : T → T → Type 0) : Type 0 where
  pub kept : (v : View T) → IsValidView v → length v.queue ≤ v.control.capacity
  pub answered : (v : View T) (n capacity : ℕ) → IsValidView v
      → Legal is_clone v call.Len (reply.Len n)
      → Legal is_clone v call.Capacity (reply.Capacity capacity) → n ≤ capacity
  pub nobody : (v : View T) → IsValidView v → len v.control.cursors ≡ 0 → v.queue ≡ []

-- a receiver for which `try_recv` counts missed messages missed at least one, and finds a message
-- if it tries again at once
abbrev pub MissedThenGiven : Type 0 → Type 0
MissedThenGiven T =
    (h : History T) (key n : ℕ) → IsValid h
    → try_recv_reply (view_of h) (cursor_of h.control key) ≡ Err (unread.Overflowed n)
    → let after = next h (call.TryRecv key) (reply.TryRecv (Ok (Err (unread.Overflowed n)))) in
    (1 ≤ n) × IsOk (try_recv_reply (view_of after) (cursor_of after.control key))

-- what receivers share: the accepted messages, which were dropped, and whether more may come
pub record ShareMessages {T : Type 0} (h other : History T) : Type 0 where
  pub first : other.first ≡ h.first
  pub accepted : other.accepted ≡ h.accepted
  pub floor : other.floor ≡ h.floor
  pub closed : other.control.closed ≡ h.control.closed

-- what a receive returns depends on what is shared and on the receiver's own cursor alone:
-- no receive by another one changes it
pub record ReadsByOwnCursor (T : Type 0) : Type 0 where
  pub own : (h other : History T) (key : ℕ) → IsValid h → ShareMessages h other
      → cursor_of other.control key ≡ cursor_of h.control key
      → try_recv_reply (view_of other) (cursor_of other.control key)
      ≡ try_recv_reply (view_of h) (cursor_of h.control key)
  pub others : (h : History T) (key reader : ℕ) (c : Call T) (r : Reply T) → IsValid h
      → receives_for reader c ≡ true → reader ≢ key
      → try_recv_reply (view_of (next h c r)) (cursor_of (next h c r).control key)
      ≡ try_recv_reply (view_of h) (cursor_of h.control key)

-- `Receiver::clone`: receives by the two return alike, also once the original has received
abbrev pub ClonesAnswerAlike : {T : Type 0} → (T → T → Type 0) → Type 0
ClonesAnswerAlike {T} is_clone =
    (h : History T) (key fresh : ℕ) (r : Reply T) → IsValid h
    → Legal is_clone (view_of h) (call.CloneReceiver key) (reply.CloneReceiver (Ok fresh))
    → let made = next h (call.CloneReceiver key) (reply.CloneReceiver (Ok fresh)) in
    let after = next made (call.TryRecv key) r in
    (try_recv_reply (view_of made) (cursor_of made.control fresh)
    ≡ try_recv_reply (view_of made) (cursor_of made.control key))
    × (try_recv_reply (view_of after) (cursor_of after.control fresh)
    ≡ try_recv_reply (view_of made) (cursor_of made.control key))
