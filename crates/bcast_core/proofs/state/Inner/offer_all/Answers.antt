use Rattle.bcast_core.proofs.Common.{not, ◌==◌, ap, ◌∙◌, tell_if_ready, tell_news, ends, shown_after}
use Rattle.bcast_model.specs.declared.run.Reply.TheVariants as reply
use Rattle.bcast_core.proofs.state.Inner.offer_all.Goals as goal

pub returns : goal.returns
returns g c =
    let was = c.end-end.ensures ∙ ap (λ inside. inside.parts.end) c.self-inside.view_is in
    let now = c.end.ensures ∙ ap (λ inside. inside.parts.end) c.self-inside-2.view_is in
    ends c.self.view_is c.self.invariant tt (record { legal = ap reply.TryBroadcastAll c.offer_all-sent.ensures.reply; effect = c.offer_all-sent.ensures.effect }) (c.tell_of_message.ensures ∙ (λ i. tell_if_ready (tell_news (not (now i == was i)) c.offer_all-sent.new.self)))

pub invariant_of-self : goal.invariant_of-self
invariant_of-self g c = shown_after (returns g c)
