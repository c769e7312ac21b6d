use Rattle.bcast_core.proofs.Common.{sym, ap, ◌∙◌, ends, shown_after, told_none, valid_shown, added_fits, new_added}
use Rattle.bcast_core.proofs.state.Inner.new_receiver.Goals as goal

pub returns-then-not-is_empty : goal.returns-then-not-is_empty
returns-then-not-is_empty g c =
    let valid = valid_shown c.self.invariant in
    ends c.self.view_is c.self.invariant (added_fits _ _ _ valid c.add_receiver-made.ensures) (new_added _ _ valid (c.end-end.ensures ∙ ap (λ inside. inside.parts.end) c.self-inside.view_is) c.add_receiver-made.ensures) c.tell_a_sender.ensures

pub returns-else-not-is_empty : goal.returns-else-not-is_empty
returns-else-not-is_empty g c =
    let valid = valid_shown c.self.invariant in
    ends c.self.view_is c.self.invariant (added_fits _ _ _ valid c.add_receiver-made.ensures) (new_added _ _ valid (c.end-end.ensures ∙ ap (λ inside. inside.parts.end) c.self-inside.view_is) c.add_receiver-made.ensures)
    (sym (told_none c.add_receiver-made.new.self (sym (ap (λ inside. inside.parts.control.waiting_sends) c.self-inside-2.view_is) ∙ c.is_empty.ensures.0 c.if-not-is_empty.false)))

pub invariant_of-self : goal.invariant_of-self
invariant_of-self g c = shown_after (returns-then-not-is_empty g c)

pub invariant_of-self-else-not-is_empty : goal.invariant_of-self-else-not-is_empty
invariant_of-self-else-not-is_empty g c = shown_after (returns-else-not-is_empty g c)
