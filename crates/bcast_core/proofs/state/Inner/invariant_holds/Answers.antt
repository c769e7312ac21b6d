use Rattle.bcast_core.proofs.Common.{subst, IsShown}
use Rattle.bcast_core.proofs.state.Inner.invariant_holds.Goals as goal

pub returns : goal.returns
returns g c = subst IsShown c.self.view_is c.self.invariant
