-- How much a receiver has still to read, and how much it missed.
use Rattle.std.specs.Prelude.{ℕ, ◌-◌, max}
use Rattle.std.specs.Option.{option_map_or}
use Rattle.bcast_model.specs.Control.{cursor_of}
use Rattle.bcast_model.specs.View.{View}
use Rattle.bcast_model.specs.Receiving.{skipped_count}

-- `unread`: how many of the kept messages the receiver `key` has still to read
abbrev pub unread : {T : Type 0} → View T → ℕ → ℕ
unread v key = option_map_or (λ cursor. v.end - max cursor v.front) (cursor_of v.control key) 0

-- `missed`: how many messages its next `try_recv` counts as missed
abbrev pub missed : {T : Type 0} → View T → ℕ → ℕ
missed v key = skipped_count v.front (cursor_of v.control key)
