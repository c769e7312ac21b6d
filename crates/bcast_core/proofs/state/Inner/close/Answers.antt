use Rattle.bcast_core.proofs.Common.{not, refl, ap, close, cursors-close, does_sets, ends, shown_after, valid_shown}
use Rattle.bcast_model.specs.declared.run.Reply.TheVariants as reply
use Rattle.bcast_core.proofs.state.Inner.close.Goals as goal

pub returns : goal.returns
returns g c =
    let was_open = ap (λ inside. reply.Close (not inside.parts.control.closed)) c.self-inside.view_is in
    ends c.self.view_is c.self.invariant tt (does_sets (close c.self.inside.parts.control) was_open refl (rw (cursors-close c.self.inside.parts.control) (valid_shown c.self.invariant).low) c.close.ensures) c.tell_a_sender.ensures

pub invariant_of-self : goal.invariant_of-self
invariant_of-self g c = shown_after (returns g c)
