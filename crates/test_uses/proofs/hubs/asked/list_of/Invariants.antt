-- Each request so far opens with a positive capacity.
use Rattle.std.specs.List.{AllByRecursion}
use Rattle.topics.specs.Request.{OpensPositive}
use Rattle.test_uses.proofs.hubs.asked.list_of.Given as goal

abbrev pub invariant-loop-row : goal.invariant-loop-row
invariant-loop-row g l = AllByRecursion OpensPositive l.list.items
