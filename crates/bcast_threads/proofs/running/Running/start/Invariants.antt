-- So many senders have their threads, and all receivers have theirs.
use Rattle.std.proofs.Common.{◌≡◌, vec_len}
use Rattle.bcast_threads.proofs.running.Running.start.Given as goal

abbrev pub invariant-loop-number : goal.invariant-loop-number
invariant-loop-number g l = record {
  senders : vec_len l.self.senders ≡ l.number;
  receivers : vec_len l.self.receivers ≡ l.plan.receivers;
}
