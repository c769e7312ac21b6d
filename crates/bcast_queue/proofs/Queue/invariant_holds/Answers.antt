-- The invariant by std's definitions.
use Rattle.std.proofs.Common.{arith}
use Rattle.std.proofs.lemmas.Grind.{common_steps}
use Rattle.std.proofs.lemmas.List.{length-map}
use Rattle.bcast_queue.specs.Entries.{counts}
use Rattle.bcast_queue.proofs.Owed.{at_least, IsNonDecreasing-from_rises}
use Rattle.bcast_queue.proofs.OwedBy.{RisesFrom-owed_by, length-owed_by}
use Rattle.bcast_queue.proofs.Queue.invariant_holds.Goals as goal

pub returns-clause-lengths : goal.returns-clause-lengths
returns-clause-lengths g c = grind (arith, common_steps, length-owed_by, length-map)

pub returns-clause-owed : goal.returns-clause-owed
returns-clause-owed g c = rw (← c.self.view_is) (λ k d h. at_least 1 _ (RisesFrom-owed_by (counts c.self.inside.ring) c.self.invariant.counted.owed) k d h)

pub returns-clause-never_falls : goal.returns-clause-never_falls
returns-clause-never_falls g c = rw (← c.self.view_is) (IsNonDecreasing-from_rises 1 _ (RisesFrom-owed_by (counts c.self.inside.ring) c.self.invariant.counted.owed))
