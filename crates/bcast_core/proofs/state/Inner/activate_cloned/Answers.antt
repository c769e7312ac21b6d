use Rattle.bcast_core.proofs.Common.{◌≡◌, inl, not, refl, sym, ap, ◌∙◌, eq-eqb, ends, shown_after, unchanged, valid_shown, added_fits, cloned_activated}
use Rattle.bcast_core.proofs.state.Inner.activate_cloned.Goals as goal

pub returns-then-self-eq0 : goal.returns-then-self-eq0
returns-then-self-eq0 g c =
    let valid = valid_shown c.self.invariant in
    let none = sym (ap (λ inside. inside.parts.control.inactive) c.self-inside.view_is) ∙ c.if-self-eq0.true in
    unchanged c.self.view_is c.self.invariant (sym c.self.view_is) valid.control.receivers_fit (inl (ap not (eq-eqb _ 0 none), refl)) refl

pub returns : goal.returns
returns g c =
    let valid = valid_shown c.self.invariant in
    let some : c.self.inside.parts.control.inactive ≡ 0 → ⊥ = λ e. c.if-self-eq0.false (ap (λ inside. inside.parts.control.inactive) c.self-inside.view_is ∙ e) in
    ends c.self.view_is c.self.invariant (added_fits _ _ _ valid c.add_receiver-cloned.ensures) (cloned_activated _ _ valid some (c.end-end.ensures ∙ ap (λ inside. inside.parts.end) c.self-inside.view_is) c.add_receiver-cloned.ensures) c.tell_a_sender.ensures

pub invariant_of-self : goal.invariant_of-self
invariant_of-self g c = shown_after (returns g c)
