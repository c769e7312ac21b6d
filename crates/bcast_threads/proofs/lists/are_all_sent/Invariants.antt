-- The numbers from `first` on are in the log.
use Rattle.std.proofs.Common.{◌≡◌, vec_len}
use Rattle.bcast_threads.specs.Lists.{HasAll}
use Rattle.bcast_threads.proofs.lists.are_all_sent.Given as goal

abbrev pub invariant-loop-thread : goal.invariant-loop-thread
invariant-loop-thread g l = record {
  sent : HasAll l.first l.total l.log.list;
  receivers : l.threads.receivers ≡ l.initial.threads.receivers;
}

abbrev pub decreases-loop-thread : goal.decreases-loop-thread
decreases-loop-thread g l = vec_len l.threads.senders
