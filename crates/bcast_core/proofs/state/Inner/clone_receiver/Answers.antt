use Rattle.bcast_core.proofs.Common.{inl, refl, sym, ◌∙◌, ap, is_some, cursor_of, sets, ends, shown_after, told_none, unchanged, valid_shown, not_some, added_fits, clone_added}
use Rattle.bcast_model.proofs.Cases.{uncloned}
use Rattle.bcast_core.proofs.state.Inner.clone_receiver.Goals as goal

pub returns-in_default : goal.returns-in_default
returns-in_default g c =
    let valid = valid_shown c.self.invariant in
    let none = sym (c.cursor.ensures ∙ ap (λ inside. cursor_of inside.parts.control c.args.key) c.self-inside.view_is) ∙ not_some c.cursor.result c.in_default.not-Some in
    unchanged c.self.view_is c.self.invariant (sym c.self.view_is) valid.control.receivers_fit (inl (ap is_some none, refl)) (ap (λ x. sets x) (uncloned c.self.inside.parts.control (cursor_of c.self.inside.parts.control c.args.key)))

pub returns-then-not-is_empty : goal.returns-then-not-is_empty
returns-then-not-is_empty g c =
    let valid = valid_shown c.self.invariant in
    ends c.self.view_is c.self.invariant (added_fits _ _ _ valid c.add_receiver-made.ensures) (clone_added _ _ _ valid (sym (c.cursor.ensures ∙ ap (λ inside. cursor_of inside.parts.control c.args.key) c.self-inside.view_is) ∙ c.in-Some.is) c.add_receiver-made.ensures) c.tell_a_sender.ensures

pub returns-else-not-is_empty : goal.returns-else-not-is_empty
returns-else-not-is_empty g c =
    let valid = valid_shown c.self.invariant in
    ends c.self.view_is c.self.invariant (added_fits _ _ _ valid c.add_receiver-made.ensures) (clone_added _ _ _ valid (sym (c.cursor.ensures ∙ ap (λ inside. cursor_of inside.parts.control c.args.key) c.self-inside.view_is) ∙ c.in-Some.is) c.add_receiver-made.ensures)
    (sym (told_none c.add_receiver-made.new.self (sym (ap (λ inside. inside.parts.control.waiting_sends) c.self-inside-2.view_is) ∙ c.is_empty.ensures.0 c.if-not-is_empty.false)))

pub invariant_of-self : goal.invariant_of-self
invariant_of-self g c = shown_after (returns-then-not-is_empty g c)

pub invariant_of-self-else-not-is_empty : goal.invariant_of-self-else-not-is_empty
invariant_of-self-else-not-is_empty g c = shown_after (returns-else-not-is_empty g c)
