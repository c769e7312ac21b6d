-- One more message is written.
use Rattle.std.proofs.Common.{◌≡◌, suc, ◌+◌, ◌∙◌, take, get_or, codes, sym, ap, subst, arith}
use Rattle.std.specs.Io.KnownBytes.{Appends}
use Rattle.std.proofs.KnownBytes.{Appends-trans}
use Rattle.std.proofs.Math.Seq.{take-suc}
use Rattle.bcast_text.specs.ScriptAnswer.{batch_text}
use Rattle.bcast_text.proofs.NumberLists.{spelt_more}
use Rattle.bcast_text.proofs.script.answer.answer_batch.Goals as goal

pub loop-msg-preserved : goal.loop-msg-preserved
loop-msg-preserved g c =
    let i = c.loop-msg.msg-index in
    let msgs = c.args.msgs.now in
    let msg = get_or msgs i 0 in
    let behind : suc i ≡ i + 1 = omega arith in
    let next = ap (λ k. take k msgs) (sym behind) ∙ take-suc msgs i 0 (omega (arith, c.loop-msg-test.true)) in
    subst (Appends (g.W.Write.contents c.args.output.now) (g.W.Write.contents c.write.new.self)) (sym (ap batch_text next ∙ spelt_more (codes "got") (take i msgs) msg))
    (Appends-trans _ _ _ _ _ c.loop-msg.invariant c.in_ok-write.ensures.bytes)
