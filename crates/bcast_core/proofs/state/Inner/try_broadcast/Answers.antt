use Rattle.bcast_core.proofs.Common.{sym, ap, ◌∙◌, is_ok, tell_if_ready, tell_news, ends, tail_nobody, shown_after, valid_shown}
use Rattle.bcast_model.specs.declared.run.Reply.TheVariants as reply
use Rattle.bcast_core.proofs.state.Inner.try_broadcast.Goals as goal

pub offer-sent-requires : goal.offer-sent-requires
offer-sent-requires g c = valid_shown c.self.invariant

pub returns-then-not-nobody_waits : goal.returns-then-not-nobody_waits
returns-then-not-nobody_waits g c = ends c.self.view_is c.self.invariant tt (record { legal = ap reply.TryBroadcast c.offer-sent.ensures.reply; effect = c.offer-sent.ensures.effect }) (c.tell_of_message.ensures ∙ ap (λ b. tell_if_ready (tell_news b c.offer-sent.new.self)) c.is_ok.ensures.value)

pub returns-else-not-nobody_waits : goal.returns-else-not-nobody_waits
returns-else-not-nobody_waits g c = ends c.self.view_is c.self.invariant tt (record { legal = ap reply.TryBroadcast c.offer-sent.ensures.reply; effect = c.offer-sent.ensures.effect }) (sym (tail_nobody (is_ok c.offer-sent.result) c.offer-sent.new.self (c.nobody_waits.ensures c.if-not-nobody_waits.false)))

pub invariant_of-self : goal.invariant_of-self
invariant_of-self g c = shown_after (returns-then-not-nobody_waits g c)

pub invariant_of-self-else-not-nobody_waits : goal.invariant_of-self-else-not-nobody_waits
invariant_of-self-else-not-nobody_waits g c = shown_after (returns-else-not-nobody_waits g c)
