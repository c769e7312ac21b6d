-- The names of receivers.
use Rattle.std.specs.Prelude.{ℕ, List, ◌≤◌, ◌<◌, length, All, slice_index, drop, ◌⊎◌}

-- a lower case letter or a digit
abbrev pub IsNameByte : ℕ → Type 0
IsNameByte c = ((97 ≤ c) × (c ≤ 122)) ⊎ ((48 ≤ c) × (c ≤ 57))

-- a lower case letter, then at most 15 lower case letters or digits
abbrev pub IsName : List ℕ → Type 0
IsName word =
    (0 < length word) × (length word ≤ 16) × (97 ≤ slice_index word 0)
    × (slice_index word 0 ≤ 122) × All IsNameByte (drop 1 word)
