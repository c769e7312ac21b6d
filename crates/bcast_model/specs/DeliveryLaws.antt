-- Laws of deliveries: they are exact, and what a receiver misses was dropped.
use Rattle.std.specs.Prelude.{◌≡◌, ℕ, ◌<◌, ◌⊎◌, List, Some}
use Rattle.std.specs.List.{AllByRecursion, Contains}
use Rattle.std.specs.List.Sorted.{IsStrictlyIncreasing}
use Rattle.bcast_model.specs.Calls.{Call, Reply}
use Rattle.bcast_model.specs.History.{History, view_of}
use Rattle.bcast_model.specs.Control.{cursor_of}
use Rattle.bcast_model.specs.Legal.{Legal}
use Rattle.bcast_model.specs.Replies.{HasPositiveCapacity}
use Rattle.bcast_model.specs.Valid.{IsValid}
use Rattle.bcast_model.specs.Next.{IsRun, end_of_run}
use Rattle.bcast_model.specs.Deliveries.{given_to, deliveries_of, AreAllExact, AtEachPoint}
use Rattle.bcast_model.specs.Missed.{dropped_in, MissesWhatIsGone}

-- in a run from a valid state the deliveries of every receiver are exact, from the start of the
-- run or from the call that made it
abbrev pub DeliveriesAreExact : {T : Type 0} → (T → T → Type 0) → Type 0
DeliveriesAreExact {T} is_clone =
    (h : History T) (calls : List (Call T)) (replies : List (Reply T))
    → IsValid h → IsRun is_clone h calls replies
    → AtEachPoint (AreAllExact is_clone) h calls replies

module _ {T : Type 0} where
  -- whether the message of this number was dropped by a call of the run, or is under the floor
  -- when the run begins (in a new channel no receiver reads such a message)
  abbrev pub WasDropped : History T → List (Call T) → List (Reply T) → ℕ → Type 0
  WasDropped h calls replies number =
      (number < h.floor) ⊎ Contains (dropped_in h calls replies) number

-- the messages that a run drops, also those that overflow hands back, have rising numbers: none is
-- dropped twice
abbrev pub DroppedNumbersRise : {T : Type 0} → (T → T → Type 0) → Type 0
DroppedNumbersRise {T} is_clone =
    (h : History T) (calls : List (Call T)) (replies : List (Reply T))
    → IsValid h → AllByRecursion HasPositiveCapacity calls → IsRun is_clone h calls replies
    → IsStrictlyIncreasing (dropped_in h calls replies)

-- at each point of each run: what a receive counts as missed was dropped by an earlier call, or is
-- under the floor when the run begins (in a new channel no receiver reads such a message); neither
-- holds of what it gives
abbrev pub MissedWereDropped : {T : Type 0} → (T → T → Type 0) → Type 0
MissedWereDropped {T} is_clone =
    (h : History T) (calls : List (Call T)) (replies : List (Reply T))
    (key cursor : ℕ) (c : Call T) (r : Reply T)
    → IsValid h → AllByRecursion HasPositiveCapacity calls → IsRun is_clone h calls replies
    → cursor_of (end_of_run h calls replies).control key ≡ Some cursor
    → Legal is_clone (view_of (end_of_run h calls replies)) c r
    → MissesWhatIsGone (WasDropped h calls replies) (WasDropped h calls replies) cursor
    (given_to key c r)

-- from each point of each run on: what a receiver counts as missed was dropped before the point, or
-- is dropped later in the run; and no message that was dropped before the point is given
abbrev pub DeliveriesTile : {T : Type 0} → (T → T → Type 0) → Type 0
DeliveriesTile {T} is_clone =
    (h : History T) (calls : List (Call T)) (replies : List (Reply T))
    (key start : ℕ) (later : List (Call T)) (later_replies : List (Reply T))
    → IsValid h → AllByRecursion HasPositiveCapacity calls → IsRun is_clone h calls replies
    → AllByRecursion HasPositiveCapacity later
    → IsRun is_clone (end_of_run h calls replies) later later_replies
    → cursor_of (end_of_run h calls replies).control key ≡ Some start
    → let now = end_of_run h calls replies in
    MissesWhatIsGone (WasDropped h calls replies)
    (λ number. WasDropped h calls replies number
    ⊎ Contains (dropped_in now later later_replies) number)
    start (deliveries_of key now later later_replies)
