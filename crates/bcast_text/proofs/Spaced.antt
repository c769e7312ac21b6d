-- Texts that are split at a space.
use Rattle.std.proofs.Common.{◌-◌, ◌≡◌, ◌≢◌, ◌<◌, ◌^◌, ℕ, List, All, ◌∷◌, ◌++◌, Option, Some, None, Bool, true, eqb, Bor, length, length-append, arith, MatchOption, not, decimal}
use Rattle.std.proofs.lemmas.Grind.{common_steps}
use Rattle.std.proofs.lemmas.List.Sums.{AllPass-from_list_all}
use Rattle.std.specs.List.{list_all}
use Rattle.std.proofs.Math.Seq.{get_or-append_seam}
use Rattle.std.proofs.lemmas.List.Elements.{All-from_get_or}
use Rattle.std.proofs.lemmas.Fmt.{decimal_is_IsNumeral}
use Rattle.std.proofs.lemmas.Str.Parse.{not_in_digits}
use Rattle.std.proofs.lemmas.Str.Pattern.{IsSplitOnceResult, split_after, split_parts}
use Rattle.bcast_text.specs.Name.{IsName}
use Rattle.bcast_text.specs.Words.{spaced}
use Rattle.bcast_text.proofs.Numbers.{digits}

-- the byte c is not in these bytes
abbrev pub Lacks : ℕ → List ℕ → Type 0
Lacks c bytes = All (λ x. x ≢ c) bytes

-- `Lacks`, as a test
abbrev pub lacks : ℕ → List ℕ → Bool
lacks c bytes = list_all (λ x. not (eqb x c)) bytes

pub Lacks-test : (c : ℕ) (xs : List ℕ) → lacks c xs ≡ true → Lacks c xs
Lacks-test c xs none k d below =
    grind (arith, common_steps, AllPass-from_list_all (λ x. not (eqb x c)) xs none k d)

pub Lacks-decimal : (c n : ℕ) → c < 48 → n < 2 ^ 64 → Lacks c (decimal n)
Lacks-decimal c n low small =
    All-from_get_or (λ x. x ≢ c) _ 0 (not_in_digits digits (decimal n) c (decimal_is_IsNumeral n small).0.1 (λ r. omega (arith, r, low)))

-- a name has no space
pub name_space : (word : List ℕ) → IsName word → Lacks 32 word
name_space word is k d below = grind (arith, common_steps, is.4 (k - 1) d)

-- the first space of a text is the one after its first part, if that part has none
pub at_space : (bytes xs ys : List ℕ) (r : Option (Bor (List ℕ) × Bor (List ℕ))) → IsSplitOnceResult 32 bytes r → Lacks 32 xs
    → bytes ≡ xs ++ 32 ∷ ys → MatchOption r ⊥ (λ x. (x.0.now ≡ xs) × (x.1.now ≡ ys))
at_space bytes xs ys r split none same = split_after 32 bytes xs ys r split (omega arith) same (λ i. none i 0)

-- a text without a space has no arguments
pub at_none : (bytes : List ℕ) → IsSplitOnceResult 32 bytes None → (word : List ℕ) (arguments : Option (List ℕ)) → Lacks 32 word
    → bytes ≡ spaced word arguments → (arguments ≡ None) × (bytes ≡ word)
at_none bytes split word arguments none same =
    grind (arith, λ (ys : List ℕ). at_space bytes word ys None split none)

-- the first space of a text is the one before the arguments
pub at_some : (bytes : List ℕ) (x : Bor (List ℕ) × Bor (List ℕ)) → IsSplitOnceResult 32 bytes (Some x) → (word : List ℕ) (arguments : Option (List ℕ)) → Lacks 32 word
    → bytes ≡ spaced word arguments → (x.0.now ≡ word) × (arguments ≡ Some x.1.now)
at_some bytes x split word arguments none same =
    let parts = split_parts 32 bytes (Some x) split (omega arith) in
    let at = λ (ys : List ℕ). at_space bytes word ys (Some x) split none in
    grind (arith, parts, at, none (length x.0.now) 0, get_or-append_seam, length-append {A = ℕ})
