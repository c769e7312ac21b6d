-- The seats of a recorder, and what is known of it beside its lock.
use Rattle.std.specs.Prelude.{ℕ, zero, suc, ◌+◌, List, [], ◌∷◌, ◌++◌}
use Rattle.bcast_history.specs.declared.step.Opening.{Opening}

-- of a recorder: what its channel was opened with, and how many seats were made
pub record Opened : Type 0 where
  pub opening : Opening
  pub seats : ℕ

-- of a seat: its number, and how many of its calls were answered
pub record Seated : Type 0 where
  pub number : ℕ
  pub count : ℕ

-- after one more call
abbrev pub answered : Seated → Seated
answered s = record s { count = s.count + 1 }

-- this many seats, numbered from 0, which have made no call
abbrev pub new_seats : ℕ → List Seated
new_seats zero = []
new_seats (suc n) = new_seats n ++ record { number = n; count = 0 } ∷ []
