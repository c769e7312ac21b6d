-- The numbers up to this one were sent.
use Rattle.std.proofs.Common.{◌≡◌}
use Rattle.bcast_history.specs.History.{accepted_by}
use Rattle.bcast_threads.specs.Lists.{HasAll}
use Rattle.bcast_threads.proofs.work.send_all.Given as goal

abbrev pub invariant-loop-msg : goal.invariant-loop-msg
invariant-loop-msg g l = record {
  end : l.end ≡ l.msg;
  sent : HasAll l.fn.first l.end (accepted_by g.J.Channel.opening l.sender.tracker.steps);
}
