use Rattle.bcast_core.proofs.Common.{refl, sym, ap, ◌∙◌, drop_receiver, sets, tell_if_ready, receiver_left, ends, shown_after, told_none, unchanged}
use Rattle.std.proofs.option.Match.{None-if_not_some}
use Rattle.bcast_core.proofs.state.Inner.drop_receiver.Goals as goal

pub returns-then-not-remove_receiver : goal.returns-then-not-remove_receiver
returns-then-not-remove_receiver g c =
    let gone = sym c.remove_receiver.ensures.found ∙ c.if-not-remove_receiver.true in
    unchanged c.self.view_is c.self.invariant (c.remove_receiver.ensures.same c.if-not-remove_receiver.true) tt refl (ap (λ o. sets (drop_receiver c.self.inside.parts.control c.args.key o)) (None-if_not_some _ gone))

pub invariant_of-self : goal.invariant_of-self
invariant_of-self g c = shown_after (returns-then-not-remove_receiver g c)

pub returns-then-not-is_empty : goal.returns-then-not-is_empty
returns-then-not-is_empty g c =
    let found = sym c.remove_receiver.ensures.found ∙ c.if-not-remove_receiver.false in
    ends c.self.view_is c.self.invariant tt (receiver_left c.args.key found (c.remove_receiver.ensures.removed c.if-not-remove_receiver.false))
    (c.tell_a_sender.ensures ∙ ap tell_if_ready c.close_if_deserted.ensures)

pub returns-else-not-is_empty : goal.returns-else-not-is_empty
returns-else-not-is_empty g c =
    let found = sym c.remove_receiver.ensures.found ∙ c.if-not-remove_receiver.false in
    ends c.self.view_is c.self.invariant tt (receiver_left c.args.key found (c.remove_receiver.ensures.removed c.if-not-remove_receiver.false))
    (sym (told_none c.close_if_deserted.new.self (sym (ap (λ inside. inside.parts.control.waiting_sends) c.self-inside.view_is) ∙ c.is_empty.ensures.0 c.if-not-is_empty.false)) ∙ ap tell_if_ready c.close_if_deserted.ensures)

pub invariant_of-self-then-not-is_empty : goal.invariant_of-self-then-not-is_empty
invariant_of-self-then-not-is_empty g c = shown_after (returns-then-not-is_empty g c)

pub invariant_of-self-else-not-is_empty : goal.invariant_of-self-else-not-is_empty
invariant_of-self-else-not-is_empty g c = shown_after (returns-else-not-is_empty g c)
