-- The reply of the line's call is answered.
use Rattle.std.proofs.Common.{rules, ◌++◌, ◌∷◌, [], refl, inl}
use Rattle.bcast_model.proofs.Clones.{answers_exact}
use Rattle.bcast_text.specs.ScriptAnswer.{answer_of}
use Rattle.bcast_play.proofs.Lines.{answered}
use Rattle.bcast_play.proofs.channel.Channel.run.Goals as goal

pub returns-clause-ok : goal.returns-clause-ok
returns-clause-ok g c =
    answered c.answer.result (answer_of c.step-reply.result) _ _ c.answer.ensures.text c.answer.ensures.answered (λ text spelt written. (
      text ++ 10 ∷ [],
      inl (record {
        call = c.in_ok-call.call;
        asked = search rules;
        reply = c.step-reply.result;
        answers = answers_exact (λ msg given e. e) c.step-reply.ensures.answers;
        names = c.in_ok-record.ensures.ok;
        text = text;
        spelt = spelt;
        ended = refl;
      }),
      written,
    ))
