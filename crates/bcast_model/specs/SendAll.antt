-- What a send of a whole list returns, and what it does to the channel.
use Rattle.std.specs.Prelude.{ℕ, ◌+◌, ◌-◌, if◌then◌else◌, List, [], ◌∷◌, length, min, nat_lt, Result, Ok, Err, is_ok}
use Rattle.bcast_model.specs.Calls.{TrySendError}
use Rattle.bcast_model.specs.declared.error.TrySendError.TheVariants as unsent
use Rattle.bcast_model.specs.Control.{has_no_receiver, accepting, last_end}
use Rattle.bcast_model.specs.View.{View, Effect, sets}

module _ {T : Type 0} where
  -- how many messages can be accepted with none dropped: by free capacity, and by numbers left
  abbrev pub free_room : View T → ℕ
  free_room v = min (v.control.capacity - length v.queue) (last_end - v.end)

  -- `try_broadcast_all`, overflow on or off: the first case that applies
  abbrev pub try_broadcast_all_reply : View T → List T
      → Result (Unit {0}) (TrySendError (List T))
  try_broadcast_all_reply v msgs =
      if v.control.closed then Err (unsent.Closed msgs)
      else (if has_no_receiver v.control then Err (unsent.Inactive msgs)
      else (if nat_lt (free_room v) (length msgs) then Err (unsent.Full msgs) else Ok tt))

  -- a list that is accepted comes last, in its order: all waiting receivers are told, and the last
  -- number closes the channel, once the whole list is there. If the list is empty, nothing changes
  abbrev pub accept_all : View T → List T → Effect T
  accept_all v [] = sets v.control
  accept_all v (msg ∷ rest) = record {
    control = accepting v.control (v.end + length (msg ∷ rest));
    accepted = msg ∷ rest;
    floor = 0;
  }

  -- `try_broadcast_all`: a list that is refused changes nothing
  abbrev pub offer_all : View T → List T → Effect T
  offer_all v msgs =
      if is_ok (try_broadcast_all_reply v msgs) then accept_all v msgs else sets v.control
