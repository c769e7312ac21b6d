-- The receiver is left at the front.
use Rattle.bcast_laws.proofs.Unread.{missed_finds}
use Rattle.bcast_laws.proofs.missed_then_given.Goals as goal

pub returns : goal.returns
returns g _ = λ h key n valid e. missed_finds h key n valid e
