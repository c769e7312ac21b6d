-- A message is one receive.
use Rattle.bcast_history.proofs.iter.TrackedIterIterator.next.Goals as goal

pub returns-in-Ok-Ok-clause-steps : goal.returns-in-Ok-Ok-clause-steps
returns-in-Ok-Ok-clause-steps g c =
    let once = c.in-Ok-Ok.ensures in
    let is = c.in-Ok-Ok.field-0-is in
    ((λ is_end. absurd (cc is_end)), rw is at once)
