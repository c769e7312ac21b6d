use Rattle.bcast_core.proofs.Common.{ap, ◌∙◌, tell_if_ready, tell_news, ends, shown_after, valid_shown}
use Rattle.bcast_model.specs.declared.run.Reply.TheVariants as reply
use Rattle.bcast_core.proofs.state.Inner.attempt_send.Goals as goal

pub attempt-sent-requires : goal.attempt-sent-requires
attempt-sent-requires g c = valid_shown c.self.invariant

pub returns : goal.returns
returns g c = ends c.self.view_is c.self.invariant tt (record { legal = ap reply.AttemptSend c.attempt-sent.ensures.reply; effect = c.attempt-sent.ensures.effect }) (c.tell_of_message.ensures ∙ ap (λ b. tell_if_ready (tell_news b c.attempt-sent.new.self)) c.is_accepted.ensures)

pub invariant_of-self : goal.invariant_of-self
invariant_of-self g c = shown_after (returns g c)
