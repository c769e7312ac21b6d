-- What was skipped so far, by receives alone.
use Rattle.futures.specs.Task.{Keeps}
use Rattle.bcast_history.proofs.Skipped.{HasSkipped}
use Rattle.bcast_history.proofs.receiver.TrackedReceiver.poll_next.Given as goal

abbrev pub invariant-loop : goal.invariant-loop
invariant-loop g l =
    (goal.iterator-loop g).can_next l.iterator' × (goal.iterator-loop g).is_finite l.iterator'
    × HasSkipped g.P.Ask.learns g.J.Channel.opening l.fn.self.tracker l.self.tracker
    × Keeps l.fn.cx l.cx
