-- Each turn keeps what is registered.
use Rattle.futures.specs.Task.{Keeps}
use Rattle.examples.proofs.tasks.LargestFuture.poll.Given as goal

abbrev pub invariant-loop : goal.invariant-loop
invariant-loop g l = Keeps l.initial.cx l.cx
