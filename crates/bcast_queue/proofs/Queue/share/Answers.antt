-- A reader is added where it owes a message; there is room for one more.
use Rattle.std.proofs.Common.{arith}
use Rattle.std.proofs.lemmas.Grind.{common_steps}
use Rattle.std.proofs.lemmas.List.{length-map}
use Rattle.bcast_queue.specs.Entries.{counts}
use Rattle.bcast_queue.proofs.OwedBy.{sum_le, more_from-end, length-owed_by}
use Rattle.bcast_queue.proofs.Queues.{same_queue}
use Rattle.bcast_queue.proofs.Queue.share.Goals as goal

pub overflow_add-self : goal.overflow_add-self
overflow_add-self g c =
    let few = rw (← c.self.view_is) at c.requires.fits in
    let below = sum_le 18446744073709551614 (counts c.self.inside.ring) (λ n is. let less = few n is in omega (arith, less)) in
    omega (arith, below, c.self.invariant.counted.summed)

pub add_readers-requires-clause-fits : goal.add_readers-requires-clause-fits
add_readers-requires-clause-fits g c =
    let few = rw (← c.self.view_is) at c.requires.fits in
    let below = sum_le 18446744073709551614 (counts c.self.inside.ring) (λ n is. let less = few n is in omega (arith, less)) in
    omega (arith, below, c.self.invariant.counted.summed)

-- who reads on behind all messages owes none
pub returns-else-index-len-clause-shared : goal.returns-else-index-len-clause-shared
returns-else-index-len-clause-shared g c = grind (arith, common_steps, same_queue, more_from-end, length-owed_by, length-map)
