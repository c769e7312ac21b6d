use Rattle.std.proofs.Common.{Ok, refl}
use Rattle.uses.proofs.LogCalls.{reads}
use Rattle.uses.proofs.laws.reads_in_order.Goals as goal

pub returns : goal.returns
returns g _ = λ equal v w reader r a log. (reads equal (Ok r) refl a log).0
