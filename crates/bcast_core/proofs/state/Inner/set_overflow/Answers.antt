use Rattle.bcast_core.proofs.Common.{refl, ap, does_sets, ends, shown_after, valid_shown}
use Rattle.bcast_core.proofs.state.Inner.set_overflow.Goals as goal

pub returns : goal.returns
returns g c =
    let set = ap (λ inside. record inside.parts { control = record inside.parts.control { overflow = c.args.on } }) c.self-inside.view_is in
    ends c.self.view_is c.self.invariant tt (does_sets (record c.self.inside.parts.control { overflow = c.args.on }) refl refl (valid_shown c.self.invariant).low set) c.tell_a_sender.ensures

pub invariant_of-self : goal.invariant_of-self
invariant_of-self g c = shown_after (returns g c)
