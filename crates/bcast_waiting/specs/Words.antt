-- The definitions that clauses name, from one place.
pub use Rattle.bcast_waiting.specs.Keys.{key_of, keys_in}
pub use Rattle.bcast_waiting.specs.Event.{Event, is_told}
pub use Rattle.bcast_waiting.specs.Slots.{Slots, listed, front, has}
pub use Rattle.bcast_waiting.specs.Listener.{slot_id, ids_in, slots_of}
pub use Rattle.bcast_waiting.specs.Number.{kind_number, pair_number, IsAt, IsIndexed, AreKept}
pub use Rattle.bcast_waiting.specs.PairNumbers.{pair_number-own, test_place, test_pair}
pub use Rattle.bcast_waiting.specs.EventInvariant.{listeners_of, IsKept}
