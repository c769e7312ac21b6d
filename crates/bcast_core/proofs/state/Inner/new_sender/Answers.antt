use Rattle.bcast_core.proofs.Common.{refl, sym, ap, ends, inside_shown, shown_after, told_already, unchanged, valid_shown, at_most, more_senders}
use Rattle.bcast_core.proofs.state.Inner.new_sender.Goals as goal

pub returns-then-self : goal.returns-then-self
returns-then-self g c =
    let here = inside_shown (ap (λ inside. inside.parts) c.self-inside.view_is) c.self.view_is c.self.invariant in
    let most = at_most _ c.if-self.true in
    unchanged here.0 here.1 (sym here.0) tt (rw most refl) (rw most refl)

pub returns : goal.returns
returns g c =
    let here = inside_shown (ap (λ inside. inside.parts) c.self-inside.view_is) c.self.view_is c.self.invariant in
    let valid = valid_shown here.1 in
    ends here.0 here.1 tt (more_senders valid c.if-self.false) (sym (told_already _ valid.wake_ups.sends))

pub invariant_of-self : goal.invariant_of-self
invariant_of-self g c = shown_after (returns g c)
