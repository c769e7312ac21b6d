-- The names of topics.
use Rattle.std.specs.Prelude.{ℕ, List, ◌≡◌, ◌≤◌, ◌<◌, length, All, ◌⊎◌}

-- a lower case letter, a digit or a dot
abbrev pub IsNameByte : ℕ → Type 0
IsNameByte c = ((97 ≤ c) × (c ≤ 122)) ⊎ (((48 ≤ c) × (c ≤ 57)) ⊎ (c ≡ 46))

-- 1 to 32 of these
abbrev pub IsName : List ℕ → Type 0
IsName word = (0 < length word) × (length word ≤ 32) × All IsNameByte word
