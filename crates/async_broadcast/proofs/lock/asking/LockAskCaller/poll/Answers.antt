-- The reply is one that the channel may give. A poll that is answered registers nothing.
use Rattle.std.proofs.Common.{rules, refl, inl, inr}
use Rattle.std.proofs.lemmas.Bool.{cases_Bool}
use Rattle.bcast_model.specs.Words.{must_wait}
use Rattle.bcast_model.proofs.Answers.{possible}
use Rattle.async_broadcast.proofs.lock.asking.LockAskCaller.poll.Goals as goal

pub append-requires-clause-answers : goal.append-requires-clause-answers
append-requires-clause-answers g c =
    rw (c.of-before.ensures, c.of-asked.ensures) c.in_ok-answer.ensures.answers

pub returns-clause-gave : goal.returns-clause-gave
returns-clause-gave g c = possible refl c.in_ok-answer.ensures.answers

pub returns-clause-kept : goal.returns-clause-kept
returns-clause-kept g c fact holds =
    let got = c.in_ok-answer.ensures in
    elim (cases_Bool (must_wait (g.C.CallOf.reply c.args.call c.in_ok-answer.answer))) [
      | inl waits ↦ let kept = (got.made waits).kept fact holds in search rules
      | inr ready ↦ let same = got.idle ready in search rules
    ]
