-- The numbers of the ids of receivers, and the positions that a list keeps by these numbers.
use Rattle.std.specs.Prelude.{◌≡◌, ℕ, ◌+◌, ◌*◌, ◌<◌, ◌≤◌, List, Option, Some, None, length, get_or}
use Rattle.bcast_model.specs.declared.listener.Kind.{Kind}
use Rattle.bcast_model.specs.declared.listener.Kind.TheVariants as kind

-- a receiver's key has two numbers, one for each kind
abbrev pub kind_number : Kind → ℕ
kind_number kind.Stream = 0
kind_number kind.Future = 1

abbrev pub pair_number : ℕ × Kind → ℕ
pair_number pair = 2 * pair.0 + kind_number pair.1

-- the entry of a number is this position
pub record IsAt (positions : List ℕ) (number position : ℕ) : Type 0 where
  pub within : number < length positions
  pub at : get_or positions number 0 ≡ position

-- for each id in the slots, the entry of its number is its position
abbrev pub IsIndexed : {I : Type 0} → (I → ℕ) → List (Option I) → List ℕ → Type 0
IsIndexed {I} number ids positions =
    (position : ℕ) (id : I) → get_or ids position None ≡ Some id
    → IsAt positions (number id) position

-- the entries are right, and there is memory for twice as many slots as entries
pub record AreKept
    {I : Type 0} (number : I → ℕ) (ids : List (Option I)) (positions : List ℕ) (capacity : ℕ)
    : Type 0 where
  pub indexed : IsIndexed number ids positions
  pub has_memory : 2 * length positions ≤ capacity
