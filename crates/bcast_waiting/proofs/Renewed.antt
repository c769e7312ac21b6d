-- The slots after a listener got another notice.
use Rattle.bcast_waiting.proofs.Common.{◌≡◌, ℕ, ◌<◌, Option, length, set, get_or, arith, vec_capacity, Vec, common_steps, slot_id, ids_in, slots_of, AreKept}
use Rattle.bcast_waiting.specs.declared.slots.Listener.{Listener}
use Rattle.bcast_waiting.specs.declared.slots.Slots.TheInside.{Inside}
use Rattle.bcast_waiting.proofs.InSlots.{ids-renewed}

module _ {I N A : Type 0} where
  -- ids, positions and memory stay as they were
  pub record IsRenewed (before after : Inside I N A) : Type 0 where
    pub ids : ids_in after.listeners.items ≡ ids_in before.listeners.items
    pub positions : after.positions ≡ before.positions
    pub capacity : vec_capacity after.listeners ≡ vec_capacity before.listeners

  -- one slot has a listener with the same id
  pub renewed : (before after : Inside I N A) (position : ℕ) (old new : Option (Listener I N)) → position < length before.listeners.items → old ≡ get_or before.listeners.items position old → slot_id new ≡ slot_id old → (listeners : Vec (Option (Listener I N)) A) → after ≡ record before { listeners = listeners } → listeners.items ≡ set before.listeners.items position new → vec_capacity listeners ≡ vec_capacity before.listeners → IsRenewed before after
  renewed before after position old new within is id listeners changed items capacity = grind (arith, common_steps, ids-renewed)

  module _ {before after : Inside I N A} (r : IsRenewed before after) where
    -- what a contract sees
    pub seen_renewed : slots_of after.listeners after.positions ≡ slots_of before.listeners before.positions
    seen_renewed i = record { ids = r.ids i; room = length (r.positions i).items }

    -- what always holds
    pub kept_renewed : (number : I → ℕ) → AreKept number (ids_in before.listeners.items) before.positions.items (vec_capacity before.listeners) → AreKept number (ids_in after.listeners.items) after.positions.items (vec_capacity after.listeners)
    kept_renewed number kept = grind (arith, common_steps)
