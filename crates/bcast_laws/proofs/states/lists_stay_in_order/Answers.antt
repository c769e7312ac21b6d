-- The three laws of a list.
use Rattle.bcast_model.proofs.ListLaws.{stays_in_order, keeps_positions, keeps_counts}
use Rattle.bcast_laws.proofs.states.lists_stay_in_order.Goals as goal

pub returns : goal.returns
returns g _ = λ same id n l test o. (stays_in_order same test id n l o, keeps_positions same test id l o, keeps_counts same test id l o)
