-- Lists of ids: what holds of each, and a list without an id.
use Rattle.std.proofs.Common.{◌≡◌, ℕ, zero, suc, ◌+◌, ◌-◌, ◌<◌, ◌≤◌, Bool, true, false, cond, ◌||◌, List, [], ◌∷◌, ◌++◌, length, drop, refl, sym, subst, arith}
use Rattle.std.proofs.lemmas.Grind.{common_steps}
use Rattle.std.proofs.lemmas.List.{drop-drop}
use Rattle.std.specs.List.{AllByRecursion}
use Rattle.bcast_model.specs.Words.{is_in, without, IsDistinct, IsTest}
use Rattle.bcast_model.proofs.Cases.{test_is}

module _ {A : Type 0} where
  pub all_more : (P Q : A → Type 0) (ids : List A) → ((id : A) → P id → Q id) → AllByRecursion P ids → AllByRecursion Q ids
  all_more P Q [] f a = a
  all_more P Q (id ∷ ids) f a = (f id a.0, all_more P Q ids f a.1)

  pub all_append : (P : A → Type 0) (ids others : List A) → AllByRecursion P ids → AllByRecursion P others → AllByRecursion P (ids ++ others)
  all_append P [] others a b = b
  all_append P (id ∷ ids) others a b = (a.0, all_append P ids others a.1 b)

  pub all_left : (P : A → Type 0) (ids others : List A) → AllByRecursion P (ids ++ others) → AllByRecursion P ids
  all_left P [] others a = tt
  all_left P (id ∷ ids) others a = (a.0, all_left P ids others a.1)

  pub all_right : (P : A → Type 0) (ids others : List A) → AllByRecursion P (ids ++ others) → AllByRecursion P others
  all_right P [] others a = a
  all_right P (id ∷ ids) others a = all_right P ids others a.1

  pub all_dropped : (P : A → Type 0) (n : ℕ) (ids : List A) → AllByRecursion P ids → AllByRecursion P (drop n ids)
  all_dropped P zero ids a = a
  all_dropped P (suc n) [] a = a
  all_dropped P (suc n) (id ∷ ids) a = all_dropped P n ids a.1

  -- what holds after fewer holds after more
  pub all_later : (P : A → Type 0) (n m : ℕ) (ids : List A) → n ≤ m → AllByRecursion P (drop n ids) → AllByRecursion P (drop m ids)
  all_later P n m ids h a =
      let e : n + (m - n) ≡ m = omega arith in
      subst (λ k. AllByRecursion P (drop k ids)) e (subst (AllByRecursion P) (drop-drop (m - n) n ids) (all_dropped P (m - n) (drop n ids) a))

  module _ (same : A → A → Bool) where
    pub without-append : (id : A) (ids others : List A) → without same id (ids ++ others) ≡ without same id ids ++ without same id others
    without-append id [] others = refl
    without-append id (other ∷ ids) others = grind (arith, common_steps, without-append id ids others)

    pub in-append : (id : A) (ids others : List A) → is_in same id (ids ++ others) ≡ (is_in same id ids || is_in same id others)
    in-append id [] others = refl
    in-append id (other ∷ ids) others = grind (arith, common_steps, in-append id ids others)

    pub without_absent : (id : A) (ids : List A) → is_in same id ids ≡ false → without same id ids ≡ ids
    without_absent id [] h = refl
    without_absent id (other ∷ ids) h = grind (arith, common_steps, without_absent id ids)

    pub all_without : (P : A → Type 0) (id : A) (ids : List A) → AllByRecursion P ids → AllByRecursion (λ other. P other × (same id other ≡ false)) (without same id ids)
    all_without P id [] a = a
    all_without P id (other ∷ ids) a =
        let rest = all_without P id ids a.1 in
        test_is (AllByRecursion (λ other. P other × (same id other ≡ false))) (same id other) (without same id ids) (other ∷ without same id ids) (λ _. rest) (λ e. ((a.0, e), rest))

    -- an id that differs from each of a list is not in it
    pub absent : (id : A) (ids : List A) → AllByRecursion (λ other. same id other ≡ false) ids → is_in same id ids ≡ false
    absent id [] a = refl
    absent id (other ∷ ids) a = rw a.0 (absent id ids a.1)

    pub all_absent : (id : A) (ids : List A) → is_in same id ids ≡ false → AllByRecursion (λ other. same id other ≡ false) ids
    all_absent id [] h = tt
    all_absent id (other ∷ ids) h = (grind (arith, common_steps, h), all_absent id ids (grind (arith, common_steps, h)))

    pub absent_without : (id : A) (ids : List A) → is_in same id (without same id ids) ≡ false
    absent_without id [] = refl
    absent_without id (other ∷ ids) = grind (arith, common_steps, absent_without id ids)

    pub some : (id : A) (ids : List A) → is_in same id ids ≡ true → 0 < length ids
    some id [] h = cc
    some id (other ∷ ids) h = omega arith

    pub distinct_left : (ids others : List A) → IsDistinct same (ids ++ others) → IsDistinct same ids
    distinct_left [] others d = tt
    distinct_left (id ∷ ids) others d = (all_left (λ other. same id other ≡ false) ids others d.0, distinct_left ids others d.1)

    pub distinct_without : (id : A) (ids : List A) → IsDistinct same ids → IsDistinct same (without same id ids)
    distinct_without id [] d = d
    distinct_without id (other ∷ ids) d =
        let rest = distinct_without id ids d.1 in
        let apart = all_more (λ z. (same other z ≡ false) × (same id z ≡ false)) (λ z. same other z ≡ false) (without same id ids) (λ z p. p.0) (all_without (λ z. same other z ≡ false) id ids d.0) in
        test_is (IsDistinct same) (same id other) (without same id ids) (other ∷ without same id ids) (λ _. rest) (λ _. (apart, rest))

    module _ (test : IsTest same) where
      -- an id in one part of a list without doubles isn't in the other
      pub distinct_apart : (id : A) (ids others : List A) → IsDistinct same (ids ++ others) → is_in same id ids ≡ true → is_in same id others ≡ false
      distinct_apart id [] others d h = cc
      distinct_apart id (other ∷ ids) others d h =
          let out = absent other others (all_right (λ z. same other z ≡ false) ids others d.0) in
          grind (arith, common_steps, out, distinct_apart id ids others d.1, test.no id other)

      -- what holds of each of a list holds of an id in it
      pub all_in : (P : A → Type 0) (id : A) (ids : List A) → AllByRecursion P ids → is_in same id ids ≡ true → P id
      all_in P id [] a h = cc
      all_in P id (other ∷ ids) a h = elim (same id other) as (λ b. same id other ≡ b → (b || is_in same id ids) ≡ true → P id) [
        | true ↦ λ e h. subst P (sym (test.no id other e)) a.0
        | false ↦ λ e h. all_in P id ids a.1 h
      ] refl h

      -- a list without doubles loses one element at most
      pub length-without : (id : A) (ids : List A) → IsDistinct same ids → length (without same id ids) ≡ cond (is_in same id ids) (length ids - 1) (length ids)
      length-without id [] d = refl
      length-without id (other ∷ ids) d =
          let out = absent other ids d.0 in
          let rest = length-without id ids d.1 in
          grind (arith, common_steps, out, rest, test.no id other, without_absent id ids, some id ids)
