use Rattle.bcast_core.proofs.Common.{◌≡◌, refl, sym, ap, ◌∙◌, is_some, cursor_of, ends, shown_after, unchanged, valid_shown, at_most, not_some, deactivated}
use Rattle.bcast_core.proofs.state.Inner.deactivate.Goals as goal

pub returns-in_default : goal.returns-in_default
returns-in_default g c =
    let none = sym (c.cursor.ensures ∙ ap (λ inside. cursor_of inside.parts.control c.args.key) c.self-inside.view_is) ∙ not_some c.cursor.result c.in_default.not-Some in
    unchanged c.self.view_is c.self.invariant (sym c.self.view_is) tt (rw none refl) (rw none refl)

pub returns-then-self : goal.returns-then-self
returns-then-self g c =
    let most = at_most _ (sym (ap (λ inside. inside.parts.control.inactive) c.self-inside.view_is) ∙ c.if-self.true) in
    let at = sym (c.cursor.ensures ∙ ap (λ inside. cursor_of inside.parts.control c.args.key) c.self-inside.view_is) ∙ c.in-Some.is in
    unchanged c.self.view_is c.self.invariant (sym c.self.view_is) tt (rw (at, most) refl) (rw (at, most) refl)

pub returns : goal.returns
returns g c =
    let valid = valid_shown c.self.invariant in
    let at = sym (c.cursor.ensures ∙ ap (λ inside. cursor_of inside.parts.control c.args.key) c.self-inside.view_is) ∙ c.in-Some.is in
    let below : c.self.inside.parts.control.inactive ≡ 18446744073709551615 → ⊥ = λ e. c.if-self.false (ap (λ inside. inside.parts.control.inactive) c.self-inside.view_is ∙ e) in
    let left = c.remove_receiver.ensures.removed (c.remove_receiver.ensures.found ∙ ap is_some at) in
    ends c.self.view_is c.self.invariant tt (deactivated c.args.key _ valid at below (ap (λ inside. inside.parts) c.self-inside-2.view_is ∙ left)) c.tell_a_sender.ensures

pub invariant_of-self : goal.invariant_of-self
invariant_of-self g c = shown_after (returns g c)
