-- How many clones there are so far, and that each reads on at the first message.
use Rattle.std.proofs.Common.{◌≡◌, vec_len, All}
use Rattle.bcast_history.specs.Reader.{StartsAtTheFirst}
use Rattle.bcast_threads.proofs.running.clones_of.Given as goal

abbrev pub invariant-loop : goal.invariant-loop
invariant-loop g l = record {
  count : vec_len l.receivers ≡ l.counter;
  start : StartsAtTheFirst g.J.Channel.opening l.receiver.tracker;
  each : All (λ receiver. StartsAtTheFirst g.J.Channel.opening receiver.tracker) l.receivers.items;
}
