-- What is left to drop, and how long that takes.
use Rattle.std.proofs.Common.{◌≡◌, ◌+◌, ◌≤◌, ◌<◌, ◌^◌, length, drop, get_or, sum}
use Rattle.std.specs.List.{prefix_len}
use Rattle.bcast_queue.specs.Entries.{counts, messages}
use Rattle.bcast_queue.proofs.Owed.{nobody}
use Rattle.bcast_queue.proofs.counts.drop_unowed.Given as goal

-- once the rest is dropped, the same messages and counts are left
abbrev pub invariant-loop-next : goal.invariant-loop-next
invariant-loop-next g l =
    record {
      some : 0 < length l.ring.items;
      next : l.next ≡ get_or (counts l.ring) 0 0;
      messages_left : drop (prefix_len nobody (counts l.ring)) (messages l.ring) ≡ drop (prefix_len nobody (counts l.initial.ring)) (messages l.initial.ring);
      counts_left : drop (prefix_len nobody (counts l.ring)) (counts l.ring) ≡ drop (prefix_len nobody (counts l.initial.ring)) (counts l.initial.ring);
      capacity : l.ring.capacity ≡ l.initial.ring.capacity;
      front : l.front + prefix_len nobody (counts l.ring) ≡ l.initial.front + prefix_len nobody (counts l.initial.ring);
      numbered : l.front + length l.ring.items < 2 ^ 64;
      fits : sum (counts l.ring) < 2 ^ 64;
      steps : g.C.Counter.total l.steps + length l.ring.items ≤ g.C.Counter.total l.initial.steps + length l.initial.ring.items;
    }

abbrev pub decreases-loop-next : goal.decreases-loop-next
decreases-loop-next g l = length l.ring.items
