-- The answer to the line's request is written.
use Rattle.std.proofs.Common.{rules, ◌++◌, ◌∷◌, [], inr, refl, is_some, subst}
use Rattle.bcast_play.specs.TopicsRun.{answer_of}
use Rattle.bcast_play.proofs.Lines.{answered, named_answer}
use Rattle.topics.specs.Name.{IsName}
use Rattle.topics.specs.Request.{IsAnswerTo, name_of, call_of}
use Rattle.topics.specs.Hub.{topic_of}
use Rattle.bcast_play.proofs.hub.HubSessionRunLine.run_line.Goals as goal

pub returns-clause-ok : goal.returns-clause-ok
returns-clause-ok g c =
    answered c.answer.result (answer_of c.ask-answered.result) _ _ c.answer.ensures.text c.answer.ensures.answered (λ text spelt wrote. (
      text ++ 10 ∷ [],
      record {
        asked = c.in_ok-line.line;
        spelt = search rules;
        in_form = search rules;
        request = c.in_ok-request.request;
        is_asked = c.in_ok-request.ensures.request;
        answer = c.ask-answered.result;
        asks = c.ask-answered.ensures;
        names = c.in_ok-record.ensures.ok;
        answered = text;
        is_answered = spelt;
        ended = refl;
      },
      wrote,
    ))

pub returns-clause-refused : goal.returns-clause-refused
returns-clause-refused g c is =
    let asked = c.in_ok-request.request in
    let is_open = is_some (topic_of c.args.self.now.hub (name_of asked)) in
    let misnamed : IsName (name_of asked) → ⊥ = λ named. named_answer is_open (call_of asked) (subst (IsAnswerTo is_open (call_of asked)) (c.answer.ensures.not_a_call.0 is) (c.ask-answered.ensures.answer.named named)) in
    inr (c.in_ok-line.line, search rules, search rules, inr (asked, c.in_ok-request.ensures.request, misnamed))
