-- The set of the keys of a slab, after a change of one slot.
use Rattle.std.proofs.Common.{◌≡◌, ℕ, zero, suc, ◌+◌, ◌<◌, ◌≤◌, Bool, true, false, cond, not, nat_eq, List, [], ◌∷◌, length, map, get_or, Option, Some, None, is_some, refl, sym, ap, ◌∙◌, zero-add, arith, eqb-true, ◌||◌, ◌&&◌}
use Rattle.std.proofs.lemmas.Grind.{common_steps}
use Rattle.std.specs.List.{list_any}
use Rattle.std.specs.List.Sorted.{IsStrictlyIncreasing}
use Rattle.std.specs.Ordering.{nat_cmp, eq_by_cmp}
use Rattle.std.specs.Cmp.{nat_cmp_total}
use Rattle.std.specs.FinMap.{nat_cmp-IsAntisymmetric}
use Rattle.std.specs.FinSet as set
use Rattle.std.specs.FinSet.{contains-from_list_nat, contains-insert, contains-remove, same_set, len-insert, len-empty}
use Rattle.std.proofs.lemmas.List.{length-map}
use Rattle.bcast_model.proofs.RisingNumbers.{IsRising, increasing}
use Rattle.slab.specs.Slab.{Slab, get, slab_len, entries, entries_from, Updates}
use Rattle.slab.proofs.SlabLemmas.{length-entries}
use Rattle.bcast_waiting.specs.Keys.{key_of, keys_in}

abbrev is_among : ℕ → List ℕ → Bool
is_among q keys = list_any (λ y. nat_eq y q) keys

module _ {V : Type 0} where
  abbrev keys_from : ℕ → List (Option V) → List ℕ
  keys_from key slots = map key_of (entries_from key slots)

  among_below : (q key : ℕ) (slots : List (Option V)) → q < key → is_among q (keys_from key slots) ≡ false
  among_below q key [] h = refl
  among_below q key (None ∷ rest) h = among_below q (key + 1) rest (omega arith)
  among_below q key (Some v ∷ rest) h = grind (arith, common_steps, among_below q (key + 1) rest (omega arith))

  among_at : (key at : ℕ) (slots : List (Option V)) → is_among (key + at) (keys_from key slots) ≡ is_some (get_or slots at None)
  among_at key at [] = refl
  among_at key zero (None ∷ rest) = among_below (key + 0) (key + 1) rest (omega arith)
  among_at key (suc at) (None ∷ rest) = grind (arith, common_steps, among_at (key + 1) at rest)
  among_at key zero (Some v ∷ rest) = grind (arith, common_steps)
  among_at key (suc at) (Some v ∷ rest) = grind (arith, common_steps, among_at (key + 1) at rest)

  pub contains-keys_in : (s : Slab V) (q : ℕ) → set.contains (keys_in s) q ≡ is_some (get s q)
  contains-keys_in s q =
      contains-from_list_nat (keys_from 0 s.slots) q
      ∙ ap (λ k. is_among k (keys_from 0 s.slots)) (sym (zero-add q))
      ∙ among_at 0 q s.slots

  -- after a change of one slot
  seen_at : (old new : Slab V) (key : ℕ) (slot : Option V) → Updates old new key slot → (q : ℕ) → set.contains (keys_in new) q ≡ cond (eq_by_cmp nat_cmp q key) (is_some slot) (set.contains (keys_in old) q)
  seen_at old new key slot updates q = grind (arith, common_steps, contains-keys_in, eqb-true)

  -- a filled slot puts its key into the set
  pub keys_in-filled : (old new : Slab V) (key : ℕ) (v : V) → Updates old new key (Some v) → keys_in new ≡ set.insert (keys_in old) key
  keys_in-filled old new key v updates =
      same_set nat_cmp_total nat_cmp-IsAntisymmetric _ _ (λ q.
      seen_at old new key (Some v) updates q
      ∙ elim (eq_by_cmp nat_cmp q key) as (λ b. cond b true (set.contains (keys_in old) q) ≡ (b || set.contains (keys_in old) q)) [ true ↦ refl | false ↦ refl ]
      ∙ sym (contains-insert nat_cmp_total (keys_in old) key q))

  -- and an emptied one takes it out
  pub keys_in-emptied : (old new : Slab V) (key : ℕ) → Updates old new key None → keys_in new ≡ set.remove (keys_in old) key
  keys_in-emptied old new key updates =
      same_set nat_cmp_total nat_cmp-IsAntisymmetric _ _ (λ q.
      seen_at old new key None updates q
      ∙ elim (eq_by_cmp nat_cmp q key) as (λ b. cond b false (set.contains (keys_in old) q) ≡ (not b && set.contains (keys_in old) q)) [ true ↦ refl | false ↦ refl ]
      ∙ sym (contains-remove nat_cmp_total (keys_in old) key q))

  len-from_list : (key : ℕ) (slots : List (Option V)) → set.len (set.from_list {R = nat_cmp} (keys_from key slots)) ≡ length (keys_from key slots)
  len-from_list key [] = len-empty nat_cmp
  len-from_list key (None ∷ rest) = len-from_list (key + 1) rest
  len-from_list key (Some v ∷ rest) = grind (arith, common_steps, contains-from_list_nat, among_below, len-insert, len-from_list (key + 1) rest)

  -- as many keys as filled slots
  pub len-keys_in : (s : Slab V) → set.len (keys_in s) ≡ slab_len s
  len-keys_in s = len-from_list 0 s.slots ∙ length-map (entries s) key_of ∙ length-entries s

  -- the keys rise
  rising_from : (low key high : ℕ) (slots : List (Option V)) → low ≤ key → key + length slots ≤ high → IsRising low high (keys_from key slots)
  rising_from low key high [] from within = tt
  rising_from low key high (None ∷ rest) from within = rising_from low (key + 1) high rest (omega (arith, from)) (omega (arith, within))
  rising_from low key high (Some v ∷ rest) from within = (from, omega (arith, within), rising_from (key + 1) (key + 1) high rest (omega arith) (omega (arith, within)))

  pub keys_rise : (s : Slab V) → IsStrictlyIncreasing (map key_of (entries s))
  keys_rise s = increasing 0 (length s.slots) (keys_from 0 s.slots) (rising_from 0 0 (length s.slots) s.slots (omega arith) (omega arith))

-- what `Places` is proved by
pub ruleset keys = (common_steps, contains-keys_in, keys_in-emptied, len-keys_in)
