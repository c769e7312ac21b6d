-- How many cursors pass a test, after a change of the map.
use Rattle.std.proofs.Common.{◌≡◌, ℕ, ◌+◌, ◌<◌, Bool, false, cond, List, [], ◌∷◌, Option, Some, None, count_by, refl, ap, ◌∙◌, arith, T, Ordering, ne_eqb}
use Rattle.std.specs.declared.cmp.Ordering.TheVariants.{Less, Equal, Greater}
use Rattle.std.specs.Ordering.{nat_cmp, is_eq, eq_by_cmp}
use Rattle.std.specs.Cmp.{nat_cmp_total, ranked, unsigned_tied}
use Rattle.std.specs.FinMap as map
use Rattle.std.specs.FinMap.{entries, find, entries-insert, get-entries}
use Rattle.std.specs.FinMap.Entries.{put, by_order, below_all}
use Rattle.std.proofs.lemmas.List.Sums.{sum_by-cons}
use Rattle.bcast_model.specs.Control.{Cursors}
use Rattle.bcast_model.proofs.DeliveryMaps.{removed_same}
use Rattle.bcast_store.proofs.Least.{both_true, below-lt, remove-absent, insert-remove}

-- one if it passes
abbrev pub one_if : (ℕ → Bool) → Option ℕ → ℕ
one_if p None = 0
one_if p (Some v) = cond (p v) 1 0

module _ (p : ℕ → Bool) where
  -- whether the value of an entry passes
  abbrev pub passing : ℕ × ℕ → Bool
  passing e = p e.1

  -- how many values pass
  abbrev counted : Cursors → ℕ
  counted m = count_by passing (entries m)

  pub count_cons : (e : ℕ × ℕ) (es : List (ℕ × ℕ)) → count_by passing (e ∷ es) ≡ cond (p e.1) 1 0 + count_by passing es
  count_cons e es = sum_by-cons (λ x. cond (passing x) 1 0) e es

  -- a key below each key is not found
  missing : (k j : ℕ) (es : List (ℕ × ℕ)) → k < j → T (below_all nat_cmp j es) → find nat_cmp k es ≡ None
  missing k j [] h below = refl
  missing k j (e ∷ es) h below =
      let above = below-lt j e.0 (both_true _ _ below).0 in
      let apart : eq_by_cmp nat_cmp k e.0 ≡ false = unsigned_tied k e.0 ∙ ne_eqb k e.0 (λ same. omega (arith, h, above, same)) in
      ap (λ b. cond b (Some e.1) (find nat_cmp k es)) apart ∙ missing k j es h (both_true _ _ below).1

  -- the new value is counted, and the old one no more
  count-put : (k : ℕ) (v : ℕ) (es : List (ℕ × ℕ)) → T (map.is_sorted nat_cmp es) → count_by passing (put nat_cmp k v es) + one_if p (find nat_cmp k es) ≡ count_by passing es + cond (p v) 1 0
  count-put k v [] h = omega (arith, count_cons (k, v) [])
  count-put k v (e ∷ es) h = go (count-put k v es (both_true _ _ h).1) (nat_cmp k e.0) refl
    where
      go : count_by passing (put nat_cmp k v es) + one_if p (find nat_cmp k es) ≡ count_by passing es + cond (p v) 1 0 → (r : Ordering) → r ≡ nat_cmp k e.0 → count_by passing (by_order r ((k, v) ∷ e ∷ es) ((e.0, v) ∷ es) (e ∷ put nat_cmp k v es)) + one_if p (cond (is_eq r) (Some e.1) (find nat_cmp k es)) ≡ count_by passing (e ∷ es) + cond (p v) 1 0
      go rest Less is =
          let none : find nat_cmp k es ≡ None = missing k e.0 es (ranked k e.0 Less is) (both_true _ _ h).0 in
          omega (arith, count_cons (k, v) (e ∷ es), ap (one_if p) none)
      go rest Equal is = omega (arith, count_cons (e.0, v) es, count_cons e es)
      go rest Greater is = omega (arith, count_cons e (put nat_cmp k v es), count_cons e es, rest)

  pub count_values-insert : (m : Cursors) (k : ℕ) (v : ℕ) → counted (map.insert m k v) + one_if p (map.get m k) ≡ counted m + cond (p v) 1 0
  count_values-insert m k v =
      ap (λ es. count_by passing es + one_if p (map.get m k)) (entries-insert nat_cmp_total m k v)
      ∙ ap (λ o. count_by passing (put nat_cmp k v (entries m)) + one_if p o) (get-entries m k)
      ∙ count-put k v (entries m) (map.entries_sorted m)

  -- a removed value is counted no more
  pub count_values-remove : (m : Cursors) (k : ℕ) → counted (map.remove m k) + one_if p (map.get m k) ≡ counted m
  count_values-remove m k = go (map.get m k) refl
    where
      go : (o : Option ℕ) → map.get m k ≡ o → counted (map.remove m k) + one_if p o ≡ counted m
      go None is = omega (arith, ap counted (remove-absent m k is))
      go (Some v) is =
          let one = count_values-insert (map.remove m k) k v in
          let other = count_values-insert m k v in
          omega (arith, one, other, ap counted (insert-remove m k v), ap (one_if p) (removed_same m k k refl), ap (one_if p) is)
