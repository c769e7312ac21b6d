-- The keys of a slab.
use Rattle.std.specs.Prelude.{ℕ, map}
use Rattle.std.specs.Ordering.{nat_cmp}
use Rattle.std.specs.FinSet.{FinSet, from_list}
use Rattle.slab.specs.Slab.{Slab, entries}

-- the key of an entry
abbrev pub key_of : {V : Type 0} → ℕ × V → ℕ
key_of e = e.0

-- the keys of all entries
abbrev pub keys_in : {V : Type 0} → Slab V → FinSet nat_cmp
keys_in s = from_list (map key_of (entries s))
