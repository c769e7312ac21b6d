use Rattle.bcast_core.proofs.Common.{sym, ap, ◌∙◌, cursor_of, does_receive, ends, told_none, shown_after, valid_shown}
use Rattle.bcast_core.proofs.state.Inner.try_recv.Goals as goal

pub returns-then-not-is_empty-clause-answers : goal.returns-then-not-is_empty-clause-answers
returns-then-not-is_empty-clause-answers g c =
    let received = c.receive-received.ensures in
    ends c.self.view_is c.self.invariant tt
    (does_receive c.self.inside.parts c.receive-received.new.self c.args.key c.cursor-at.result c.receive-received.result (c.cursor-at.ensures ∙ ap (λ inside. cursor_of inside.parts.control c.args.key) c.self-inside.view_is) (valid_shown c.self.invariant) received.found received.ok received.err)
    c.tell_a_sender.ensures

pub returns-else-not-is_empty-clause-answers : goal.returns-else-not-is_empty-clause-answers
returns-else-not-is_empty-clause-answers g c =
    let received = c.receive-received.ensures in
    ends c.self.view_is c.self.invariant tt
    (does_receive c.self.inside.parts c.receive-received.new.self c.args.key c.cursor-at.result c.receive-received.result (c.cursor-at.ensures ∙ ap (λ inside. cursor_of inside.parts.control c.args.key) c.self-inside.view_is) (valid_shown c.self.invariant) received.found received.ok received.err)
    (sym (told_none c.receive-received.new.self (sym (ap (λ inside. inside.parts.control.waiting_sends) c.self-inside-2.view_is) ∙ c.is_empty.ensures.0 c.if-not-is_empty.false)))

pub invariant_of-self : goal.invariant_of-self
invariant_of-self g c = shown_after (returns-then-not-is_empty-clause-answers g c)

pub invariant_of-self-else-not-is_empty : goal.invariant_of-self-else-not-is_empty
invariant_of-self-else-not-is_empty g c = shown_after (returns-else-not-is_empty-clause-answers g c)
