-- What the calls on the map of a slab's entries return.
use Rattle.std.proofs.Common.{◌≡◌, ◌≢◌, ℕ, zero, suc, ◌+◌, ◌<◌, Bool, true, false, cond, eqb, List, [], ◌∷◌, get_or, Option, Some, None, refl, sym, ap, ◌∙◌, zero-add, arith, T}
use Rattle.std.proofs.lemmas.Grind.{common_steps}
use Rattle.std.proofs.lemmas.Result.{IfOk-weaker}
use Rattle.std.specs.Prelude.{◌&&◌}
use Rattle.std.specs.Ordering.{nat_cmp, eq_by_cmp}
use Rattle.std.specs.Cmp.{nat_cmp_total}
use Rattle.std.specs.FinMap as map
use Rattle.std.specs.FinMap.{find, is_sorted, same_map, nat_cmp-IsAntisymmetric, get-from_sorted, entries-from_sorted, len-entries, get-insert, get-remove, empty_of_len}
use Rattle.std.specs.FinMap.Entries.{below_all}
use Rattle.slab.specs.Slab.{Slab, get, slab_len, entries, entries_from, Updates}
use Rattle.slab.proofs.SlabLemmas.{length-entries}
use Rattle.bcast_store.specs.Cursors.{cursors_of}

both : (a b : Bool) → T a → T b → T (a && b)
both true b p q = q
both false b p q = absurd p

found_not : (q key : ℕ) → q ≢ key → eqb q key ≡ false
found_not q key differs = grind arith

module _ {V : Type 0} where
  below : (j key : ℕ) (slots : List (Option V)) → j < key → T (below_all nat_cmp j (entries_from key slots))
  below j key [] h = tt
  below j key (None ∷ rest) h = below j (key + 1) rest (omega arith)
  below j key (Some v ∷ rest) h = grind (arith, common_steps, both, below j (key + 1) rest (omega arith))

  sorted : (key : ℕ) (slots : List (Option V)) → T (is_sorted nat_cmp (entries_from key slots))
  sorted key [] = tt
  sorted key (None ∷ rest) = sorted (key + 1) rest
  sorted key (Some v ∷ rest) = both _ _ (below key (key + 1) rest (omega arith)) (sorted (key + 1) rest)

  find_below : (q key : ℕ) (slots : List (Option V)) → q < key → find nat_cmp q (entries_from key slots) ≡ None
  find_below q key [] h = refl
  find_below q key (None ∷ rest) h = find_below q (key + 1) rest (omega arith)
  find_below q key (Some v ∷ rest) h = grind (arith, common_steps, found_not, find_below q (key + 1) rest (omega arith))

  find_at : (key at : ℕ) (slots : List (Option V)) → find nat_cmp (key + at) (entries_from key slots) ≡ get_or slots at None
  find_at key at [] = refl
  find_at key zero (None ∷ rest) = find_below (key + 0) (key + 1) rest (omega arith)
  find_at key (suc at) (None ∷ rest) = grind (arith, common_steps, find_at (key + 1) at rest)
  find_at key zero (Some v ∷ rest) = grind (arith, common_steps)
  find_at key (suc at) (Some v ∷ rest) = grind (arith, common_steps, found_not, find_at (key + 1) at rest)

-- ---- the map
pub get-cursors_of : (s : Slab ℕ) (q : ℕ) → map.get (cursors_of s) q ≡ get s q
get-cursors_of s q =
    get-from_sorted nat_cmp (entries s) q (sorted 0 s.slots)
    ∙ ap (λ k. find nat_cmp k (entries s)) (sym (zero-add q))
    ∙ find_at 0 q s.slots

pub entries-cursors_of : (s : Slab ℕ) → map.entries (cursors_of s) ≡ entries s
entries-cursors_of s = entries-from_sorted nat_cmp (entries s) (sorted 0 s.slots)

pub len-cursors_of : (s : Slab ℕ) → map.len (cursors_of s) ≡ slab_len s
len-cursors_of s = grind (arith, common_steps, len-entries, entries-from_sorted, sorted, length-entries)

seen_at : (old new : Slab ℕ) (key : ℕ) (slot : Option ℕ) → Updates old new key slot → (q : ℕ) → map.get (cursors_of new) q ≡ cond (eq_by_cmp nat_cmp q key) slot (map.get (cursors_of old) q)
seen_at old new key slot updates q = grind (arith, common_steps, get-cursors_of)

pub cursors_of-updated : (old new : Slab ℕ) (key : ℕ) (v : ℕ) → Updates old new key (Some v) → cursors_of new ≡ map.insert (cursors_of old) key v
cursors_of-updated old new key v updates =
    same_map nat_cmp_total nat_cmp-IsAntisymmetric _ _ (λ q. seen_at old new key (Some v) updates q ∙ sym (get-insert nat_cmp_total (cursors_of old) key v q))

pub cursors_of-removed : (old new : Slab ℕ) (key : ℕ) → Updates old new key None → cursors_of new ≡ map.remove (cursors_of old) key
cursors_of-removed old new key updates =
    same_map nat_cmp_total nat_cmp-IsAntisymmetric _ _ (λ q. seen_at old new key None updates q ∙ sym (get-remove nat_cmp_total (cursors_of old) key q))

-- a map with no entry is the empty one
pub cursors_of-empty : (s : Slab ℕ) → s.slots ≡ [] → cursors_of s ≡ map.empty
cursors_of-empty s none = empty_of_len (cursors_of s) (len-cursors_of s ∙ ap (λ (slots : List (Option ℕ)). slab_len (record s { slots = slots })) none)

-- what the check needs for the calls
pub ruleset cursor_calls = (common_steps, IfOk-weaker, get-cursors_of, entries-cursors_of, len-cursors_of, cursors_of-updated, cursors_of-removed, cursors_of-empty)
