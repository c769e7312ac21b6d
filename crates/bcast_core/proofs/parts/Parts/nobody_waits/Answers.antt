-- Nobody waits where no send waits, and no receiver.
use Rattle.bcast_core.proofs.Common.{arith, common_steps}
use Rattle.bcast_core.proofs.parts.Parts.nobody_waits.Goals as goal

pub returns-then-is_empty : goal.returns-then-is_empty
returns-then-is_empty g c empty = grind (arith, common_steps)
