-- A list is accepted where there is room for it.
use Rattle.bcast_core.proofs.Common.{arith, common_steps, some_news}
use Rattle.bcast_core.proofs.Offers.{not_zero, offer_all_accepted}
use Rattle.bcast_core.proofs.parts.Parts.offer_all.Goals as goal

pub returns-clause-effect : goal.returns-clause-effect
returns-clause-effect g c = grind (arith, common_steps, not_zero, some_news, offer_all_accepted)
