-- The line that was read is answered, or is not UTF-8 text, or the program refuses it.
use Rattle.std.proofs.Common.{rules, arith, Ok, ap, ◌∙◌}
use Rattle.std.proofs.lemmas.Grind.{common_steps}
use Rattle.bcast_text.specs.Run.{no_text, no_call}
use Rattle.bcast_text.proofs.Runs.{one_line}
use Rattle.bcast_text.proofs.input.next_line.Goals as goal

pub returns-in_default-clause-refused : goal.returns-in_default-clause-refused
returns-in_default-clause-refused g c line is =
    no_text _ _ (c.in-Ok-Line.ensures.line (ap Ok c.in-Ok-Line.field-0-is)) (rw c.text.ensures at c.in_default.ensures.cases.0)

pub returns-in-Err-NotACall-clause-refused : goal.returns-in-Err-NotACall-clause-refused
returns-in-Err-NotACall-clause-refused g c line is =
    let same = c.in-Ok.ensures.cases.0 ∙ c.text.ensures in
    no_call _ _ (c.in-Ok-Line.ensures.line (ap Ok c.in-Ok-Line.field-0-is)) (rw same at (c.run_line.ensures.refused (search rules)))

pub returns-in-Ok-run_line-clause-ok : goal.returns-in-Ok-run_line-clause-ok
returns-in-Ok-run_line-clause-ok g c = grind (arith, common_steps, one_line)
