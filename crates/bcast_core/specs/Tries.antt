-- How often the stream looks for a message.
use Rattle.std.specs.Prelude.{ℕ, if◌then◌else◌}
use Rattle.bcast_model.specs.Words.{is_in, untold_ids, Pair, same_pair, Control}

-- `poll_recv` and the stream: not at all if the listener is listed and not told, and else once
abbrev pub tries_of : Control → Pair → ℕ
tries_of c pair = if is_in same_pair pair (untold_ids c.waiting_receives) then 0 else 1
