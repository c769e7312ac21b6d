-- Each receiver has its thread, or is still to have one.
use Rattle.std.proofs.Common.{◌≡◌, ◌+◌, vec_len, All}
use Rattle.bcast_history.specs.Reader.{StartsAtTheFirst}
use Rattle.bcast_threads.proofs.running.start_receivers.Given as goal

abbrev pub invariant-loop-receiver : goal.invariant-loop-receiver
invariant-loop-receiver g l = record {
  count : vec_len l.running + vec_len l.receivers
      ≡ vec_len l.initial.running + vec_len l.initial.receivers;
  start : All (λ receiver. StartsAtTheFirst g.J.Channel.opening receiver.tracker) l.receivers.items;
}

abbrev pub decreases-loop-receiver : goal.decreases-loop-receiver
decreases-loop-receiver g l = vec_len l.receivers
