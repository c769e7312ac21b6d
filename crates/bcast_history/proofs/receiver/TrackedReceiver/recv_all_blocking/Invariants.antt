-- What was received so far is a log, by receives alone.
use Rattle.bcast_history.specs.Log.{IsLog}
use Rattle.bcast_history.specs.Makes.{MakesReceives}
use Rattle.bcast_history.proofs.receiver.TrackedReceiver.recv_all_blocking.Given as goal

abbrev pub invariant-loop : goal.invariant-loop
invariant-loop g l =
    (goal.iterator-loop g).can_next l.iterator' × (goal.iterator-loop g).is_finite l.iterator'
    × MakesReceives g.P.Ask.learns l.initial.self.tracker l.self.tracker
    × IsLog g.T.Clone.is_clone g.J.Channel.opening l.list.items l.self.tracker
