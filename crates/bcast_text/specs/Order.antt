-- What `bcast threads` looks for: the receivers' lists agree, and no message is lost or received
-- twice.
use Rattle.std.specs.Prelude.{◌≡◌, ℕ, List, [], ◌∷◌, Bool, true, false, length, slice_index_or, ◌<◌, Contains, All}

-- as many numbers as there are below `count`, and each of those: so each of them is there once
abbrev pub HoldsEachOnce : List ℕ → ℕ → Type 0
HoldsEachOnce list count = (length list ≡ count) × ((n : ℕ) → n < count → Contains list n)

-- each receiver's list is the first one's, which holds each number below count once
abbrev pub IsOneOrder : List (List ℕ) → ℕ → Type 0
IsOneOrder [] count = ⊥
IsOneOrder (first ∷ others) count = All (λ list. list ≡ first) others × HoldsEachOnce first count

-- the place of this number is marked
abbrev pub IsMarked : List Bool → ℕ → Type 0
IsMarked marks n = slice_index_or marks n false ≡ true
