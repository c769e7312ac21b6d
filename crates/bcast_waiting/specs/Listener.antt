-- How an `Event` keeps its listeners.
use Rattle.std.specs.Prelude.{ℕ, List, Option, map, option_map, length}
use Rattle.std.specs.declared.vec.Vec.{Vec}
use Rattle.bcast_waiting.specs.declared.slots.Listener.{Listener}
use Rattle.bcast_waiting.specs.Slots.{Slots}

module _ {I N : Type 0} where
  -- the id in a slot
  abbrev pub slot_id : Option (Listener I N) → Option I
  slot_id slot = option_map (λ x. x.id) slot

  -- the ids in slots
  abbrev pub ids_in : List (Option (Listener I N)) → List (Option I)
  ids_in slots = map slot_id slots

  -- what a contract sees of the slots
  abbrev pub slots_of : {A : Type 0} → Vec (Option (Listener I N)) A → Vec ℕ A → Slots I
  slots_of slots positions = record { ids = ids_in slots.items; room = length positions.items }
