use Rattle.bcast_core.proofs.Common.{◌≡◌, ◌^◌, ◌<◌, inl, inr, not, refl, sym, ap, ◌∙◌, subst, eq-eqb, ne_eqb, len, View, ends, shown_after, unchanged, valid_shown, activated, not_added}
use Rattle.bcast_core.proofs.state.Inner.activate.Goals as goal

pub returns-then-self-eq0 : goal.returns-then-self-eq0
returns-then-self-eq0 g c =
    let valid = valid_shown c.self.invariant in
    let none = sym (ap (λ inside. inside.parts.control.inactive) c.self-inside.view_is) ∙ c.if-self-eq0.true in
    unchanged c.self.view_is c.self.invariant (sym c.self.view_is) valid.control.receivers_fit (inl (ap not (eq-eqb _ 0 none), refl)) refl

pub returns-in_default : goal.returns-in_default
returns-in_default g c =
    let some : c.self.inside.parts.control.inactive ≡ 0 → ⊥ = λ e. c.if-self-eq0.false (ap (λ inside. inside.parts.control.inactive) c.self-inside.view_is ∙ e) in
    unchanged c.self.view_is c.self.invariant (not_added _ _ c.in_default.not-Ok c.add_receiver.ensures) (valid_shown c.self.invariant).control.receivers_fit (inr (ap not (ne_eqb _ 0 some), inr refl)) refl

pub returns : goal.returns
returns g c =
    let some : c.self.inside.parts.control.inactive ≡ 0 → ⊥ = λ e. c.if-self-eq0.false (ap (λ inside. inside.parts.control.inactive) c.self-inside.view_is ∙ e) in
    let adds = c.in-Ok.ensures in
    let new_is = ap (λ inside. inside.parts) c.self-inside-2.view_is ∙ adds.1 in
    ends c.self.view_is c.self.invariant (subst (λ (x : View g.row.T.Denot). len x.control.cursors < 2 ^ 64) (sym new_is) adds.2)
    (activated _ c.in-Ok.active some (c.end-end.ensures ∙ ap (λ inside. inside.parts.end) c.self-inside.view_is) adds.0 new_is) c.tell_a_sender.ensures

pub invariant_of-self : goal.invariant_of-self
invariant_of-self g c = shown_after (returns-in_default g c)

pub invariant_of-self-2 : goal.invariant_of-self-2
invariant_of-self-2 g c = shown_after (returns g c)
