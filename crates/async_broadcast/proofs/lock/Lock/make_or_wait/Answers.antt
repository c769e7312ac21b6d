-- The reply to the last try, which was of the call that was given. Who makes it again learns of it.
use Rattle.std.proofs.Common.{refl, ◌∙◌}
use Rattle.std.proofs.lemmas.Option.{IfSome_then}
use Rattle.bcast_model.proofs.Answers.{possible}
use Rattle.async_broadcast.proofs.lock.Lock.make_or_wait.Goals as goal

pub append-requires-clause-answers : goal.append-requires-clause-answers
append-requires-clause-answers g c =
    rw (c.of-before.ensures, c.of-made.ensures) c.make-answer.ensures.answers

pub returns-then-not-waits-clause-reply : goal.returns-then-not-waits-clause-reply
returns-then-not-waits-clause-reply g c = possible refl c.make-answer.ensures.answers

pub again-call-requires-clause-reply : goal.again-call-requires-clause-reply
again-call-requires-clause-reply g c =
    rw c.of-made.ensures (possible {is_clone = g.T.Clone.is_clone} refl c.make-answer.ensures.answers)

pub append-requires-2-clause-answers : goal.append-requires-2-clause-answers
append-requires-2-clause-answers g c =
    rw (c.of-before-2.ensures, ← c.again-call.ensures) c.make-answer-2.ensures.answers

pub append-requires-2-clause-moves : goal.append-requires-2-clause-moves
append-requires-2-clause-moves g c =
    rw c.of-made.ensures (IfSome_then _ c.requires.moves
    (λ key. g.met.J.CallJournal.moves_on _ _ _ _ key (c.if-not-must_wait.ensures c.args.call)
    (rw c.of-made.ensures at c.append.ensures.learned)))

pub returns-clause-reply : goal.returns-clause-reply
returns-clause-reply g c =
    let last = possible {is_clone = g.T.Clone.is_clone} refl c.make-answer-2.ensures.answers in
    rw (c.again-call.ensures ∙ c.of-made.ensures) at last

pub returns-clause-learned : goal.returns-clause-learned
returns-clause-learned g c =
    g.J.CallJournal.again _ _ _ _ _ _ (c.if-not-must_wait.ensures c.args.call)
    (rw c.of-made.ensures at c.append.ensures.learned)
    (rw c.of-made.ensures at c.append-2.ensures.learned)
