use Rattle.bcast_core.proofs.Common.{does_resize, ends, shown_after, valid_shown}
use Rattle.bcast_core.proofs.state.Inner.set_capacity.Goals as goal

pub set_capacity-set-requires-clause-valid : goal.set_capacity-set-requires-clause-valid
set_capacity-set-requires-clause-valid g c = valid_shown c.self.invariant

pub returns : goal.returns
returns g c = ends c.self.view_is c.self.invariant (c.requires, c.ranges.n.fits) (does_resize c.self.inside.parts c.set_capacity-set.new.self c.args.n c.set_capacity-set.result (valid_shown c.self.invariant) c.set_capacity-set.ensures.ok c.set_capacity-set.ensures.refused c.set_capacity-set.ensures.err) c.tell_a_sender.ensures

pub invariant_of-self : goal.invariant_of-self
invariant_of-self g c = shown_after (returns g c)
