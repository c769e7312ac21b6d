-- The lists so far are the log's, and each other receiver is still to be joined.
use Rattle.std.proofs.Common.{◌≡◌, ◌+◌, vec_len, length, All}
use Rattle.bcast_threads.proofs.lists.other_lists.Given as goal

abbrev pub invariant-loop-thread : goal.invariant-loop-thread
invariant-loop-thread g l = record {
  count : length l.lists.items + vec_len l.threads.receivers ≡ vec_len l.initial.threads.receivers;
  same : All (λ list. list.items ≡ l.log.list) l.lists.items;
}

abbrev pub decreases-loop-thread : goal.decreases-loop-thread
decreases-loop-thread g l = vec_len l.threads.receivers
