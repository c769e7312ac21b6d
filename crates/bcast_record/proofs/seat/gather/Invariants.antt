use Rattle.std.proofs.Common.{◌≡◌, ◌+◌, ◌≤◌, length, sum_by}
use Rattle.bcast_record.proofs.seat.gather.Given as goal

-- the parts and the calls of the seats so far
abbrev pub invariant-loop-seat : goal.invariant-loop-seat
invariant-loop-seat g l =
    (l.all.parts ≡ length l.yielded + 1) × (l.all.parts ≤ g.R.Ledger.parts) × (l.all.amount ≡ sum_by (λ s. s.count) l.yielded)
