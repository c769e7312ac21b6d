-- Each line that is run adds its answer.
use Rattle.std.proofs.Common.{arith}
use Rattle.std.proofs.lemmas.Grind.{common_steps}
use Rattle.bcast_text.proofs.Runs.{one_more, nothing_more}
use Rattle.bcast_text.proofs.input.each_line.Goals as goal

pub loop-number-preserved : goal.loop-number-preserved
loop-number-preserved g c =
    let answered = one_more _ c.loop-number.invariant.answered c.in-Ok.ensures.ok in
    grind (arith, common_steps, answered)

pub returns-in-Err : goal.returns-in-Err
returns-in-Err g c written =
    let kept = c.in-Err.ensures.unwritten written in
    grind (arith, common_steps, nothing_more _ c.loop-number.invariant.answered kept)
