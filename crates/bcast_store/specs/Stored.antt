-- What a contract sees of a `Store`: the kept messages, and the receivers that are to read them.
use Rattle.std.specs.Prelude.{◌≡◌, ℕ, ◌+◌, ◌-◌, ◌^◌, ◌<◌, ◌≤◌, ◌⊎◌, List, ◌++◌, length, max, drop, slice_get, Some, IsSomeAnd, refl}
use Rattle.std.specs.Coded.{Coded, code_by, coded×, coded_ℕ, coded_list}
use Rattle.std.specs.FinMap.{get, len, code}
use Rattle.bcast_model.specs.Words.{least_cursor, Cursors, IsUnreadByAnother}

-- the number of the first kept message, the kept messages, the receivers' cursors, and how many
-- messages fit
pub record Stored (T : Type 0) : Type 0 where
  pub front : ℕ
  pub queue : List T
  pub cursors : Cursors
  pub room : ℕ

module _ {T : Type 0} where
  abbrev pub stored_code : Coded T → Coded (Stored T)
  stored_code c =
      code_by
      (ℕ × (List T × (Cursors × ℕ)))
      (coded× coded_ℕ (coded× (coded_list c) (coded× (code coded_ℕ coded_ℕ) coded_ℕ)))
      (λ s. (s.front, (s.queue, (s.cursors, s.room))))
      (λ p. record { front = p.0; queue = p.1.0; cursors = p.1.1.0; room = p.1.1.1 })
      (λ _. refl)

  -- the number that the next message gets
  abbrev pub end_of : Stored T → ℕ
  end_of s = s.front + length s.queue

  -- other cursors: the messages that no receiver is to read any more are dropped
  abbrev pub with_cursors : Stored T → Cursors → Stored T
  with_cursors s cursors =
      let front = max s.front (least_cursor (end_of s) cursors) in
      record s { front = front; queue = drop (front - s.front) s.queue; cursors = cursors }

  -- whether another receiver is still to read the message of this number
  abbrev pub IsOwed : Stored T → ℕ → ℕ → Type 0
  IsOwed s key number = IsUnreadByAnother s.front (end_of s) s.cursors key (Some number)

  -- what a receiver is given for the message of this number: the message itself; or a clone, if
  -- another receiver is still to read it
  abbrev pub IsHandedOut : (T → T → Type 0) → Stored T → ℕ → ℕ → T → Type 0
  IsHandedOut is_clone s key number given =
      (slice_get s.queue (number - s.front) ≡ Some given)
      ⊎ (IsOwed s key number
      × IsSomeAnd (slice_get s.queue (number - s.front)) (λ msg. is_clone msg given))

  -- for each of `count` numbers, from this one on, what may be given was put last into a list
  pub record AreHandedOut
      (IsGiven : ℕ → T → Type 0) (number : ℕ) (before : List T) (count : ℕ) (after : List T)
      : Type 0 where
    pub given : List T
    pub put : after ≡ before ++ given
    pub counted : length given ≡ count
    pub each : (i : ℕ) (msg : T) → slice_get given i ≡ Some msg → IsGiven (number + i) msg

-- what always holds: some receiver is to read each kept message, and no cursor is past the end
pub record IsSettled {T : Type 0} (s : Stored T) : Type 0 where
  pub front : least_cursor (end_of s) s.cursors ≤ s.front
  pub reach : (key cursor : ℕ) → get s.cursors key ≡ Some cursor → cursor ≤ end_of s
  pub fits : length s.queue ≤ s.room
  pub end_fits : end_of s < 2 ^ 64
  pub receivers_fit : len s.cursors < 2 ^ 64
