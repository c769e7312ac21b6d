-- The lines so far are answered.
use Rattle.std.proofs.Common.{◌≡◌, ◌-◌, ◌<◌}
use Rattle.bcast_text.specs.Lines.{unread, longest_of}
use Rattle.bcast_text.specs.Run.{Answered}
use Rattle.bcast_text.proofs.input.each_line.Given as goal

abbrev pub invariant-loop-number : goal.invariant-loop-number
invariant-loop-number g l = record {
  some : 0 < l.number;
  longest : longest_of l.lines ≡ longest_of l.initial.lines;
  answered : Answered g.P.RunLine.answers
      (unread g.R.Read.remaining l.initial.lines) (unread g.R.Read.remaining l.lines)
      (g.W.Write.contents l.initial.output) (g.W.Write.contents l.output)
      (g.P.RunLine.state l.initial.program) (g.P.RunLine.state l.program) (l.number - 1);
}

abbrev pub decreases-loop-number : goal.decreases-loop-number
decreases-loop-number g l = 18446744073709551615 - l.number
