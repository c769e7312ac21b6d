-- The words of a line, and its numbers.
use Rattle.std.specs.Prelude.{ℕ, List, Bool, true, false, Option, Some, None, [], ◌++◌, ◌∷◌, ◌<◌, ◌^◌, codes, decimal}

-- a word, and after one space its arguments, if there are any
abbrev pub spaced : List ℕ → Option (List ℕ) → List ℕ
spaced word None = word
spaced word (Some arguments) = word ++ 32 ∷ arguments

-- a flag
abbrev pub bool_text : Bool → List ℕ
bool_text true = codes "true"
bool_text false = codes "false"

-- a number that a line can have
abbrev pub IsU64 : ℕ → Type 0
IsU64 n = n < 2 ^ 64

-- a positive number that a line can have
abbrev pub IsPositive : ℕ → Type 0
IsPositive n = (0 < n) × IsU64 n

-- numbers, with one space between two of them; none if there is no number
abbrev pub numbers_text : List ℕ → Option (List ℕ)
numbers_text [] = None
numbers_text (n ∷ ns) = Some (spaced (decimal n) (numbers_text ns))
