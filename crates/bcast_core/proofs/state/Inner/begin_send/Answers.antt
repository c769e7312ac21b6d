use Rattle.bcast_core.proofs.Tail.{does_begin, ends, shown_after, valid_shown}
use Rattle.bcast_core.proofs.state.Inner.begin_send.Goals as goal

pub returns : goal.returns
returns g c = ends c.self.view_is c.self.invariant tt (does_begin c.self.inside.parts c.begin_send-begun.new.self c.begin_send-begun.result (valid_shown c.self.invariant) c.begin_send-begun.ensures.free c.begin_send-begun.ensures.ok c.begin_send-begun.ensures.err) c.tell_a_sender.ensures

pub invariant_of-self : goal.invariant_of-self
invariant_of-self g c = shown_after (returns g c)
