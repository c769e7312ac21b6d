-- Marks at the places of numbers.
use Rattle.std.proofs.Common.{arith, ◌≡◌, ◌↔◌, ◌⊎◌, inl, ℕ, ◌<◌, List, [], ◌∷◌, Bool, true, false, length, slice_set, ⊎_elim, fold, All, Contains, IsTrue, IfOk, Result, map, length-set, get_or-set_other}
use Rattle.std.proofs.lemmas.List.Elements.{All-map, Contains-append_cases, Contains-append_left, Contains-append_right}
use Rattle.std.proofs.lemmas.Grind.{common_steps}
use Rattle.std.proofs.lemmas.Bool.Decides.{eqb_tells}
use Rattle.bcast_text.specs.Order.{IsMarked, HoldsEachOnce, IsOneOrder}

-- marks after one more number
abbrev pub with_mark : List Bool → ℕ → List Bool
with_mark marks n = slice_set marks n true

-- a place is marked after one more number if it was before, or if it has that number
one_more : (marks : List Bool) (x n : ℕ) → n < length marks → IsMarked (with_mark marks x) n ↔ (IsMarked marks n ⊎ (n ≡ x))
one_more marks x n within = grind (arith, common_steps, get_or-set_other, eqb_tells n x)

-- a place is marked if it was before, or if its number is in the list
pub marked : (list : List ℕ) (marks : List Bool) (n : ℕ) → n < length marks → IsMarked (fold with_mark marks list) n ↔ (IsMarked marks n ⊎ Contains list n)
marked [] marks n within = (λ m. inl m, λ o. ⊎_elim (λ m. m) (λ h. absurd (omega (arith, h.1))) o)
marked (x ∷ xs) marks n within =
    let rest = marked xs (with_mark marks x) n (rw (length-set marks x true) within) in
    let cases = Contains-append_cases (x ∷ []) xs n in
    let right = Contains-append_right (x ∷ []) xs n in
    grind (arith, one_more marks x n within, rest, cases, right, Contains-append_left (x ∷ []) xs n)

module _ {V : Type 0} (items : V → List ℕ) (first : List ℕ) (others : List V) (count : ℕ) where
  -- if all lists are the first one, the result depends on the first one alone
  pub one_order : {E : Type 0} → All (λ v. items v ≡ first) others → (r : Result Bool E)
      → IfOk r (λ answer. IsTrue answer ↔ HoldsEachOnce first count)
      → IfOk r (λ answer. IsTrue answer ↔ IsOneOrder (first ∷ map items others) count)
  one_order same r once = grind (arith, All-map (λ list. list ≡ first) items others same)

  -- if one is another list, there is no one order
  pub no_order : (equal : Bool) → (IsTrue equal ↔ All (λ v. items v ≡ first) others) → equal ≡ false
      → IsTrue false ↔ IsOneOrder (first ∷ map items others) count
  no_order equal tells not = (
    λ never. absurd cc,
    λ one. grind (arith, tells.1 (λ k d below. grind (arith, common_steps, one.0 k (items d)))),
  )
