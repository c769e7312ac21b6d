-- A list that is sent at once stays in one piece.
use Rattle.std.specs.Prelude.{◌≡◌, ℕ, ◌+◌, ◌-◌, ◌≤◌, List, ◌++◌, length, slice_get, Some, IfSome, IsSomeAnd, Ok}
use Rattle.bcast_model.specs.declared.run.Call.{Call}
use Rattle.bcast_model.specs.declared.run.Call.TheVariants as call
use Rattle.bcast_model.specs.declared.run.Reply.{Reply}
use Rattle.bcast_model.specs.declared.run.Reply.TheVariants as reply
use Rattle.bcast_model.specs.Words.{cursor_of, History, view_of, end_number, numbered, IsGiven}
use Rattle.bcast_model.specs.Words.{Legal, next, IsValid, IsRun, end_of_run, deliveries_of}
use Rattle.bcast_model.specs.Words.{last_cursor_of}

module _ {T : Type 0} where
  -- `try_broadcast_all`: the state after this list was accepted
  abbrev pub after_list : History T → List T → History T
  after_list h msgs = next h (call.TryBroadcastAll msgs) (reply.TryBroadcastAll (Ok tt))

-- an accepted list, and the calls that follow it
pub record StandsInOnePiece
    {T : Type 0} (is_clone : T → T → Type 0) (h : History T) (msgs : List T)
    (calls : List (Call T)) (replies : List (Reply T)) : Type 0 where
  -- it is last, in its order
  pub last : (after_list h msgs).accepted ≡ h.accepted ++ msgs
  -- its messages keep numbers that follow one another, so no other message comes between
  pub numbers : (index : ℕ) (msg : T) → slice_get msgs index ≡ Some msg
      → numbered (end_of_run (after_list h msgs) calls replies) (end_number h + index) ≡ Some msg
  -- a receiver that was there and has gone past the list has a delivery of each of its messages:
  -- the message itself, a clone of it, or None, if it is counted as missed
  pub delivered : (key start cursor index : ℕ) (msg : T) → cursor_of h.control key ≡ Some start
      → last_cursor_of key (after_list h msgs) calls replies ≡ Some cursor
      → end_number h + length msgs ≤ cursor → slice_get msgs index ≡ Some msg
      → IsSomeAnd
      (slice_get (deliveries_of key (after_list h msgs) calls replies)
      (end_number h + index - start))
      (λ delivery. IfSome delivery (IsGiven is_clone msg))

-- each list that is accepted stays in one piece, whatever calls follow
abbrev pub ListsStandInOnePiece : {T : Type 0} → (T → T → Type 0) → Type 0
ListsStandInOnePiece {T} is_clone =
    (h : History T) (msgs : List T) (calls : List (Call T)) (replies : List (Reply T)) → IsValid h
    → Legal is_clone (view_of h) (call.TryBroadcastAll msgs) (reply.TryBroadcastAll (Ok tt))
    → IsRun is_clone (after_list h msgs) calls replies
    → StandsInOnePiece is_clone h msgs calls replies
