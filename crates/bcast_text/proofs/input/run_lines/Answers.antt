-- Nothing is written after the last line.
use Rattle.std.proofs.Common.{arith}
use Rattle.std.proofs.lemmas.Grind.{common_steps}
use Rattle.bcast_text.proofs.Runs.{no_line, nothing_more}
use Rattle.bcast_text.proofs.input.run_lines.Goals as goal

pub returns-in_default : goal.returns-in_default
returns-in_default g c _ = no_line g.P.RunLine.answers _ _ _ _ tt (λ is. absurd (cc)) (λ line is. absurd (cc))

pub returns : goal.returns
returns g c written =
    let lines = c.in-Ok.ensures in
    let run = rw (lines.unread, lines.longest) at (c.each_line-ending.ensures written) in
    grind (arith, common_steps, nothing_more _ run.answered c.flush.ensures.bytes)
