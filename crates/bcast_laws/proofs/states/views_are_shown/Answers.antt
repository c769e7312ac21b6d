-- A view whose parts fit together is shown, and the other way round.
use Rattle.bcast_model.proofs.Opening.{views_shown}
use Rattle.bcast_laws.proofs.states.views_are_shown.Goals as goal

pub returns : goal.returns
returns g _ = λ v. views_shown v
