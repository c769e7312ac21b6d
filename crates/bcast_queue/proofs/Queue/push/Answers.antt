-- With the new count the sum is the number of owing readers.
use Rattle.std.proofs.Common.{◌≡◌, ◌-◌, ◌+◌, arith, sum}
use Rattle.std.proofs.lemmas.Grind.{common_steps}
use Rattle.std.proofs.lemmas.List.{map_push, length-map, length_push}
use Rattle.std.proofs.lemmas.List.Sums.{sum_by_push}
use Rattle.bcast_queue.specs.Entries.{counts}
use Rattle.bcast_queue.proofs.OwedBy.{sum_le, owed_by-push}
use Rattle.bcast_queue.proofs.Queues.{same_queue}
use Rattle.bcast_queue.proofs.Queue.push.Goals as goal

pub overflow_sub-next : goal.overflow_sub-next
overflow_sub-next g c = grind (arith, common_steps, sum_le)

sum_is : (g : _) (c : goal.After-self-1 g) → sum (counts c.self.inside.ring) + (c.args.owing - c.self.inside.total) ≡ c.args.owing
sum_is g c =
    let enough = sum_le c.args.owing (counts c.self.inside.ring) (rw (← c.self.view_is) at c.requires.never_falls) in
    omega (arith, enough, c.self.invariant.counted.summed)

pub invariant_of-self : goal.invariant_of-self
invariant_of-self g c = grind (arith, common_steps, length_push, map_push, sum_is, sum_by_push, length-map)

pub returns-clause-pushed : goal.returns-clause-pushed
returns-clause-pushed g c = grind (arith, common_steps, sum_is, same_queue, map_push, owed_by-push)
