use Rattle.std.proofs.Common.{◌≡◌, inr, refl, sym, ap, ◌∙◌, subst, false, None, is_some, string_bytes}
use Rattle.std.specs.HashMap.{get_by_text}
use Rattle.topics.specs.declared.request.Answer.TheVariants as answer
use Rattle.topics.specs.Request.{IsAnswerTo}
use Rattle.topics.proofs.Topics.{put_others}
use Rattle.topics.proofs.hub.Hub.open.Goals as goal

pub returns-in-Ok-insert-clause-answer : goal.returns-in-Ok-insert-clause-answer
returns-in-Ok-insert-clause-answer g c =
    let absent : is_some (get_by_text c.args.self.now.topics (string_bytes c.args.name)) ≡ false =
    ap (λ name. is_some (get_by_text c.args.self.now.topics name)) (sym c.as_str.ensures.value) ∙ sym c.contains_key.ensures ∙ c.if-contains_key.false in
    subst (λ b. IsAnswerTo {T = g.row.T.Denot} b None answer.Opened) (sym absent) (inr refl)

pub returns-in-Ok-insert-clause-others : goal.returns-in-Ok-insert-clause-others
returns-in-Ok-insert-clause-others g c = put_others (string_bytes c.args.name) c.args.self.now.topics c.insert.new.self c.in-Ok.topic c.in-Ok-insert.ensures.updates
