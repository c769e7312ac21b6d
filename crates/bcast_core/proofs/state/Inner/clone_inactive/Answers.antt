use Rattle.bcast_core.proofs.Common.{refl, sym, ap, eq-eqb, ne_eqb, ends, inside_shown, shown_after, told_already, unchanged, valid_shown, at_most, more_inactive}
use Rattle.bcast_core.proofs.state.Inner.clone_inactive.Goals as goal

pub returns-then-self-eq0 : goal.returns-then-self-eq0
returns-then-self-eq0 g c =
    let here = inside_shown (ap (λ inside. inside.parts) c.self-inside.view_is) c.self.view_is c.self.invariant in
    let none = eq-eqb _ 0 c.if-self-eq0.true in
    unchanged here.0 here.1 (sym here.0) tt (rw none refl) (rw none refl)

pub returns-then-self : goal.returns-then-self
returns-then-self g c =
    let here = inside_shown (ap (λ inside. inside.parts) c.self-inside.view_is) c.self.view_is c.self.invariant in
    let some = ne_eqb _ 0 c.if-self-eq0.false in
    let most = at_most _ c.if-self.true in
    unchanged here.0 here.1 (sym here.0) tt (rw (some, most) refl) (rw (some, most) refl)

pub returns : goal.returns
returns g c =
    let here = inside_shown (ap (λ inside. inside.parts) c.self-inside.view_is) c.self.view_is c.self.invariant in
    let valid = valid_shown here.1 in
    ends here.0 here.1 tt (more_inactive valid c.if-self-eq0.false c.if-self.false) (sym (told_already _ valid.wake_ups.sends))

pub invariant_of-self : goal.invariant_of-self
invariant_of-self g c = shown_after (returns g c)
