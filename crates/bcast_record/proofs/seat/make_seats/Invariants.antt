use Rattle.std.proofs.Common.{◌≡◌, ◌+◌, vec_len}
use Rattle.bcast_record.specs.Seats.{new_seats}
use Rattle.bcast_record.proofs.seat.make_seats.Given as goal

-- the seats so far, and a part for each that is left
abbrev pub invariant-loop-number : goal.invariant-loop-number
invariant-loop-number g l =
    (l.rest.parts + l.number ≡ l.seats + 1) × (l.rest.amount ≡ 0) × (vec_len l.made ≡ l.number) × (l.made.items ≡ new_seats l.number)
