-- Each number is in its range.
use Rattle.bcast_text.proofs.script.command.with_numbers.Goals as goal

pub returns-clause-range : goal.returns-clause-range
returns-clause-range c = (c.in_ok-up_to.ensures.range, c.in_ok-up_to-2.ensures.range, c.in_ok-up_to-3.ensures.range)
