-- The entries of the numbers of ids, as slots are filled and emptied.
use Rattle.std.proofs.Common.{◌≡◌, ◌≢◌, ℕ, zero, suc, ◌+◌, ◌<◌, ◌≤◌, ◌==◌, Bool, true, false, List, [], ◌∷◌, ◌++◌, length, get_or, set, Option, Some, None, refl, sym, ap, ◌∙◌, subst, arith, ltb, length-set, rules, true≢false}
use Rattle.std.proofs.lemmas.Option.{none-some, same_Some}
use Rattle.std.proofs.lemmas.List.{get_or_append_left, get_or-set_other}
use Rattle.std.proofs.lemmas.Grind.{get_or-set_at, common_steps}
use Rattle.std.specs.List.{AllByRecursion}
use Rattle.bcast_model.specs.Words.{is_in, IsDistinct, IsTest}
use Rattle.bcast_model.proofs.Lists.{all_in, all_absent}
use Rattle.bcast_model.proofs.Waiting.{test_place}
use Rattle.bcast_waiting.specs.Words.{listed, has, IsAt, IsIndexed}
use Rattle.bcast_waiting.proofs.InSlots.{absent_slots, is_there}

-- the entry of a number after that of another was written, and after its own was
other_written : (positions : List ℕ) (n m k p : ℕ) → m ≢ n → IsAt positions m p → IsAt (set positions n k) m p
other_written positions n m k p apart at = record { within = omega (arith, at.within, length-set positions n k); at = get_or-set_other positions n m k 0 apart ∙ at.at }

own_written : (positions : List ℕ) (n m k p : ℕ) → m ≡ n → n < length positions → k ≡ p → IsAt (set positions n k) m p
own_written positions n m k p own within is = record { within = omega (arith, own, within, length-set positions n k); at = get_or-set_at positions n m k 0 own within ∙ is }

module _ {I : Type 0} where
  -- a slot that is filled last
  pushed_at : (ids : List (Option I)) (id : I) (p : ℕ) (x : I) → get_or (ids ++ Some id ∷ []) p None ≡ Some x → length ids ≤ p → (p ≡ length ids) × (id ≡ x)
  pushed_at [] id zero x e h = (refl, same_Some id x e)
  pushed_at [] id (suc p) x e h = absurd (none-some x e)
  pushed_at (slot ∷ ids) id zero x e h = absurd (omega (arith, h))
  pushed_at (slot ∷ ids) id (suc p) x e h = let rest = pushed_at ids id p x e (omega (arith, h)) in (omega (arith, rest.0), rest.1)

  module _ (same : I → I → Bool) (test : IsTest same) where
    -- what holds of each id that is listed holds of the id in a slot
    pub in_slot : (P : I → Type 0) (ids : List (Option I)) (p : ℕ) (x : I) → AllByRecursion P (listed ids) → get_or ids p None ≡ Some x → P x
    in_slot P ids p x a e = all_in same test P x (listed ids) a (is_there same x ids p (ap (has same x) e ∙ test.yes x))

    absent_at : (id : I) (ids : List (Option I)) (p : ℕ) (x : I) → is_in same id (listed ids) ≡ false → get_or ids p None ≡ Some x → same id x ≡ false
    absent_at id ids p x h e = in_slot (λ other. same id other ≡ false) ids p x (all_absent same id (listed ids) h) e

    -- ids in two slots differ
    apart_at : (ids : List (Option I)) (p q : ℕ) (x y : I) → IsDistinct same (listed ids) → p < q → get_or ids p None ≡ Some x → get_or ids q None ≡ Some y → same x y ≡ false
    apart_at [] p q x y d h e f = absurd (none-some x e)
    apart_at (slot ∷ ids) p zero x y d h e f = absurd (omega (arith, h))
    apart_at (None ∷ ids) zero (suc q) x y d h e f = absurd (none-some x e)
    apart_at (None ∷ ids) (suc p) (suc q) x y d h e f = apart_at ids p q x y d (omega (arith, h)) e f
    apart_at (Some z ∷ ids) zero (suc q) x y d h e f = subst (λ z. same z y ≡ false) (same_Some z x e) (in_slot (λ other. same z other ≡ false) ids q y d.0 f)
    apart_at (Some z ∷ ids) (suc p) (suc q) x y d h e f = apart_at ids p q x y d.1 (omega (arith, h)) e f

    module _ (number : I → ℕ) (own : (x y : I) → same x y ≡ (number x == number y)) where
      two_numbers : (x y : I) → same x y ≡ false → number y ≢ number x
      two_numbers x y e n = true≢false (sym (test_place.yes (number x)) ∙ ap (λ m. number x == m) (sym n) ∙ sym (own x y) ∙ e)

      -- ---- an id is found
      module _ (ids : List (Option I)) (positions : List ℕ) (indexed : IsIndexed number ids positions) (id : I) where
        at_slot : (p : ℕ) → has same id (get_or ids p None) ≡ true → IsAt positions (number id) p
        at_slot p h = search (rules, true≢false)

        pub absent_beyond : length positions ≤ number id → is_in same id (listed ids) ≡ false
        absent_beyond past = grind (arith, common_steps, absent_slots, at_slot)

        pub absent_there : has same id (get_or ids (get_or positions (number id) 0) None) ≡ false → is_in same id (listed ids) ≡ false
        absent_there none = grind (arith, common_steps, absent_slots, at_slot)

        -- ---- an id is put last
        pub IsIndexed-push : is_in same id (listed ids) ≡ false → number id < length positions → IsIndexed number (ids ++ Some id ∷ []) (set positions (number id) (length ids))
        IsIndexed-push absent within p x e = elim (ltb p (length ids)) as (λ b. ltb p (length ids) ≡ b → IsAt (set positions (number id) (length ids)) (number x) p) [
          | true ↦ λ t.
              let less : p < length ids = grind (arith, t) in
              let was = sym (get_or_append_left ids (Some id ∷ []) None p less) ∙ e in
              other_written positions (number id) (number x) (length ids) p (two_numbers id x (absent_at id ids p x absent was)) (indexed p x was)
          | false ↦ λ t.
              let past : length ids ≤ p = grind (arith, t) in
              let last = pushed_at ids id p x e past in
              own_written positions (number id) (number x) (length ids) p (ap number (sym last.1)) within (sym last.0)
        ] refl

      -- ---- entries are written one after another
      pub entries_more : (ids : List (Option I)) (positions : List ℕ) (k : ℕ) (id : I) → IsDistinct same (listed ids) → number id < length positions → get_or ids k None ≡ Some id
          → ((p : ℕ) (x : I) → p < k → get_or ids p None ≡ Some x → IsAt positions (number x) p)
          → (p : ℕ) (x : I) → p < k + 1 → get_or ids p None ≡ Some x → IsAt (set positions (number id) k) (number x) p
      entries_more ids positions k id d within e before p x h f = elim (ltb p k) as (λ b. ltb p k ≡ b → IsAt (set positions (number id) k) (number x) p) [
        | true ↦ λ t.
            let less : p < k = grind (arith, t) in
            let apart = two_numbers x id (apart_at ids p k x id d less f e) in
            other_written positions (number id) (number x) k p (λ n. apart (sym n)) (before p x less f)
        | false ↦ λ t.
            let here : p ≡ k = grind (arith, t, h) in
            let one = same_Some x id (sym f ∙ ap (λ p. get_or ids p None) here ∙ e) in
            own_written positions (number id) (number x) k p (ap number one) within (sym here)
      ] refl

  -- an empty slot has no entry
  pub entries_same : (number : I → ℕ) (ids : List (Option I)) (positions : List ℕ) (k : ℕ) → get_or ids k None ≡ None
      → ((p : ℕ) (x : I) → p < k → get_or ids p None ≡ Some x → IsAt positions (number x) p)
      → (p : ℕ) (x : I) → p < k + 1 → get_or ids p None ≡ Some x → IsAt positions (number x) p
  entries_same number ids positions k e before p x h f = grind (arith, common_steps, none-some)
