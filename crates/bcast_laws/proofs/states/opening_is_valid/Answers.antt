-- The opening is valid.
use Rattle.bcast_model.proofs.Opening.{opening_valid}
use Rattle.bcast_laws.proofs.states.opening_is_valid.Goals as goal

pub returns : goal.returns
returns g _ = λ capacity first key some few below. opening_valid capacity first key some few below
