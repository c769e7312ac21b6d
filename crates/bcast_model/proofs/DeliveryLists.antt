-- An entry of two joined lists is in one of them; what holds of each entry, beside its number.
use Rattle.std.proofs.Common.{◌≡◌, ◌⊎◌, inl, inr, ℕ, zero, suc, ◌+◌, ◌-◌, ◌<◌, ◌≤◌, List, [], ◌∷◌, ◌++◌, length, replicate, Option, Some, None, slice_get, ap, ◌∙◌, subst, arith}
use Rattle.std.proofs.lemmas.Option.{none-some, same_Some}
use Rattle.bcast_model.specs.Words.{AllFrom}

pub past_end : {X : Type 0} (xs : List X) (index : ℕ) → slice_get xs index ≡ None → length xs ≤ index
past_end [] index e = omega arith
past_end (x ∷ xs) zero e = cc
past_end (x ∷ xs) (suc index) e = let rest = past_end xs index e in omega arith

-- an entry of a list in two parts
pub in_parts : {X : Type 0} (xs ys : List X) (index : ℕ) (x : X) → slice_get (xs ++ ys) index ≡ Some x → (slice_get xs index ≡ Some x) ⊎ ((length xs ≤ index) × (slice_get ys (index - length xs) ≡ Some x))
in_parts [] ys index x e = inr (omega arith, ap (slice_get ys) (omega arith) ∙ e)
in_parts (y ∷ xs) ys zero x e = inl e
in_parts (y ∷ xs) ys (suc index) x e =
    elim (in_parts xs ys index x e) [ inl there ↦ inl there | inr there ↦ inr (omega (arith, there.0), ap (slice_get ys) (omega (arith, there.0)) ∙ there.1) ]

-- what is in a list is there when more comes after it
pub in_longer : {X : Type 0} (xs ys : List X) (index : ℕ) (x : X) → slice_get xs index ≡ Some x → slice_get (xs ++ ys) index ≡ Some x
in_longer [] ys index x e = absurd (none-some x e)
in_longer (y ∷ xs) ys zero x e = e
in_longer (y ∷ xs) ys (suc index) x e = in_longer xs ys index x e

-- ---- a list beside the numbers from start on
pub all_from_more : {X : Type 0} (P Q : ℕ → X → Type 0) (start : ℕ) (xs : List X) → ((n : ℕ) (x : X) → start ≤ n → P n x → Q n x) → AllFrom P start xs → AllFrom Q start xs
all_from_more P Q start [] each all = tt
all_from_more P Q start (x ∷ xs) each all = (each start x (omega arith) all.0, all_from_more P Q (start + 1) xs (λ n y from. each n y (omega (arith, from))) all.1)

pub all_from_append : {X : Type 0} (P : ℕ → X → Type 0) (start : ℕ) (xs ys : List X) → AllFrom P start xs → AllFrom P (start + length xs) ys → AllFrom P start (xs ++ ys)
all_from_append P start [] ys all rest = let none : start + 0 ≡ start = omega arith in subst (λ n. AllFrom P n ys) none rest
all_from_append P start (x ∷ xs) ys all rest =
    let same : start + suc (length xs) ≡ start + 1 + length xs = omega arith in
    (all.0, all_from_append P (start + 1) xs ys all.1 (subst (λ n. AllFrom P n ys) same rest))

pub all_from_missed : {X : Type 0} (P : ℕ → Option X → Type 0) (start count : ℕ) → ((n : ℕ) → start ≤ n → n < start + count → P n None) → AllFrom P start (replicate count None)
all_from_missed P start zero each = tt
all_from_missed P start (suc count) each = (each start (omega arith) (omega arith), all_from_missed P (start + 1) count (λ n from below. each n (omega (arith, from)) (omega (arith, below))))

pub at_index : {X : Type 0} (P : ℕ → X → Type 0) (start : ℕ) (xs : List X) → AllFrom P start xs → (index : ℕ) (x : X) → slice_get xs index ≡ Some x → P (start + index) x
at_index P start [] all index x e = absurd (none-some x e)
at_index P start (y ∷ xs) all zero x e = let here : start ≡ start + 0 = omega arith in subst (λ n. P n x) here (subst (P start) (same_Some y x e) all.0)
at_index P start (y ∷ xs) all (suc index) x e =
    let same : start + 1 + index ≡ start + suc index = omega arith in subst (λ n. P n x) same (at_index P (start + 1) xs all.1 index x e)
