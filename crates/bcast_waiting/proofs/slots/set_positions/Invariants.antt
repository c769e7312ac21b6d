-- The ids in the slots so far have their entries.
use Rattle.bcast_waiting.proofs.Common.{◌≡◌, ℕ, ◌<◌, Some, None, get_or, ids_in, IsAt}
use Rattle.bcast_waiting.proofs.slots.set_positions.Given as goal

abbrev pub invariant-loop-position : goal.invariant-loop-position
invariant-loop-position g l =
    (p : ℕ) (id : g.row.I.Denot) → p < l.position → get_or (ids_in l.listeners) p None ≡ Some id → IsAt l.positions (g.I.Indexed.number id) p
