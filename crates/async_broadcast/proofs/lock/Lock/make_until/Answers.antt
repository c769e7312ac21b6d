-- The reply to the last try, which was of the call that was given. Who makes it again learns of it.
use Rattle.std.proofs.Common.{rules, ◌≡◌, false, ◌∙◌}
use Rattle.std.proofs.lemmas.Option.{IfSome_then}
use Rattle.async_broadcast.specs.Ports.{is_answer}
use Rattle.async_broadcast.proofs.lock.Lock.make_until.Goals as goal

pub loop-preserved : goal.loop-preserved
loop-preserved g c =
    let waits : is_answer (g.C.CallOf.reply c.args.call c.make_or_wait-answer.result.0) ≡ false = search rules in
    let learned = rw c.loop.invariant.2 at c.make_or_wait-answer.ensures.learned in (
      tt,
      tt,
      c.again-call.ensures ∙ c.of-made.ensures ∙ c.loop.invariant.2,
      IfSome_then _ c.loop.invariant.3 (λ key. g.met.J.CallJournal.moves_on _ _ _ _ key waits learned),
      λ reply after last. c.loop.invariant.4 reply after (g.J.CallJournal.again _ _ _ _ _ _ waits learned last),
    )

pub returns-then-is_over-clause-learned : goal.returns-then-is_over-clause-learned
returns-then-is_over-clause-learned g c =
    c.loop.invariant.4 _ _ (rw c.loop.invariant.2 at c.make_or_wait-answer.ensures.learned)

pub returns-then-is_over-clause-reply : goal.returns-then-is_over-clause-reply
returns-then-is_over-clause-reply g c = rw c.loop.invariant.2 at c.make_or_wait-answer.ensures.reply

pub again-call-requires-clause-reply : goal.again-call-requires-clause-reply
again-call-requires-clause-reply g c = rw c.of-made.ensures c.make_or_wait-answer.ensures.reply
