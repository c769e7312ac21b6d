-- The calls of the entries so far are copied, and there is room for the others.
use Rattle.std.proofs.Common.{◌≡◌, ◌+◌, ◌-◌, ◌≤◌, map, take, length, vec_len, vec_capacity}
use Rattle.bcast_record.proofs.finished.copies.Given as goal

abbrev pub invariant-loop-entry : goal.invariant-loop-entry
invariant-loop-entry g l = record {
  copied : l.calls.items ≡ map (λ entry. entry.call) (take l.entry-index l.entries);
  room : vec_len l.calls + (length l.entries - l.entry-index) ≤ vec_capacity l.calls;
}
