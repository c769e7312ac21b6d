-- No slot is empty.
use Rattle.bcast_waiting.proofs.Common.{◌≤◌, length, ap, ◌∙◌, arith, common_steps, listed}
use Rattle.std.proofs.lemmas.List.{length-map}
use Rattle.bcast_waiting.proofs.InSlots.{listed_full, front_full, front_mono, front_all}
use Rattle.bcast_waiting.proofs.slots.Slots.compact_if_sparse.Goals as goal
use Rattle.bcast_waiting.proofs.slots.Slots.compact_if_sparse.Goals.{After-compact}

-- no more are told than are listed
within : (g : _) (c : After-compact g) → c.args.told ≤ length (listed c.args.self.now.ids)
within g c =
    let ids = c.args.self.now.ids in
    omega (arith, c.requires.told, c.requires.within, front_mono ids c.args.told_end (length ids) c.requires.within, front_all ids (length ids) (omega arith))

pub returns-clause-listed : goal.returns-clause-listed
returns-clause-listed g c = ap (λ s. listed s.ids) c.compact.ensures ∙ listed_full (listed c.args.self.now.ids)

pub returns-clause-told : goal.returns-clause-told
returns-clause-told g c = grind (arith, common_steps, within, front_full)

pub returns-clause-within : goal.returns-clause-within
returns-clause-within g c = grind (arith, common_steps, within, length-map)
