-- How an `Event` keeps count of its listeners.
use Rattle.std.specs.Prelude.{◌≡◌, ℕ, ◌<◌, ◌≤◌, Bool, List, Option, length}
use Rattle.std.specs.List.{AllByRecursion}
use Rattle.bcast_model.specs.Listeners.{Listeners, AreInOrder}
use Rattle.bcast_waiting.specs.Slots.{Slots, listed, front}

module _ {I : Type 0} where
  -- the ids of the listeners, and how many are told
  abbrev pub listeners_of : List (Option I) → ℕ → Listeners I
  listeners_of ids told = record { ids = listed ids; told = told }

  -- `count` are listed and `told` are told, which are those in the slots before `told_end`; each of
  -- them has a number below the room
  pub record IsKept
      (same : I → I → Bool) (number : I → ℕ) (s : Slots I) (count told told_end : ℕ)
      : Type 0
    where
      pub in_order : AreInOrder same (listeners_of s.ids told)
      pub counted : count ≡ length (listed s.ids)
      pub told_front : told ≡ front s.ids told_end
      pub within : told_end ≤ length s.ids
      pub in_room : AllByRecursion (λ id. number id < s.room) (listed s.ids)
