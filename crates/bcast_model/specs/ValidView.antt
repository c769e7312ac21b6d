-- What holds of the view of a valid history, by the view alone. Of public clauses only laws use it.
use Rattle.std.specs.Prelude.{◌≡◌, ℕ, ◌+◌, ◌≤◌, [], length, Some}
use Rattle.std.specs.FinMap.{get}
use Rattle.bcast_model.specs.View.{View}
use Rattle.bcast_model.specs.History.{least_cursor}
use Rattle.bcast_model.specs.Valid.{IsValidControl, NoLostWakeUp}

-- the numbers, the counts and the lists fit, and no receiver lags behind an empty queue
pub record IsValidView {T : Type 0} (v : View T) : Type 0 where
  pub low : least_cursor v.end v.control.cursors ≤ v.front
  pub high : v.front ≤ v.end
  pub end : v.end ≡ v.front + length v.queue
  pub reach : (key cursor : ℕ) → get v.control.cursors key ≡ Some cursor → cursor ≤ v.end
  pub caught_up : (key cursor : ℕ) → v.queue ≡ [] → get v.control.cursors key ≡ Some cursor
      → v.end ≤ cursor
  pub fits : length v.queue ≤ v.control.capacity
  pub control : IsValidControl v.control v.end
  pub wake_ups : NoLostWakeUp v
