-- Texts of several numbers.
use Rattle.std.proofs.Common.{◌≡◌, ◌≢◌, ◌<◌, ◌^◌, ℕ, List, [], ◌∷◌, ◌++◌, Option, Some, Bor, refl, sym, ap, ◌∙◌, append_assoc, arith, decimal}
use Rattle.std.proofs.lemmas.Grind.{common_steps}
use Rattle.std.specs.List.{AllByRecursion}
use Rattle.std.proofs.lemmas.Fmt.{decimal_injective}
use Rattle.std.proofs.lemmas.Option.{none-some, same_Some}
use Rattle.std.proofs.lemmas.Str.Pattern.{IsSplitOnceResult, split_parts}
use Rattle.bcast_model.proofs.Lists.{all_append}
use Rattle.bcast_text.specs.Words.{spaced, numbers_text, IsU64}
use Rattle.bcast_text.proofs.Spaced.{Lacks, at_some, Lacks-decimal}

-- the numbers that were read of a text, and what is left of it
pub record AreRead (text : List ℕ) (msgs : List ℕ) (rest : List ℕ) : Type 0 where
  pub small : AllByRecursion IsU64 msgs
  -- numbers that spell the rest, put after those that were read, spell the text
  pub whole : (more : List ℕ) → numbers_text more ≡ Some rest → numbers_text (msgs ++ more) ≡ Some text
  -- and no other numbers spell the text
  pub only : (all : List ℕ) → AllByRecursion IsU64 all → numbers_text all ≡ Some text → (more : List ℕ) × (all ≡ msgs ++ more) × AllByRecursion IsU64 more × (numbers_text more ≡ Some rest)

-- one more number, up to a space
pub one_read : (text msgs rest : List ℕ) (x : Bor (List ℕ) × Bor (List ℕ)) (n : ℕ) → n < 2 ^ 64 → IsSplitOnceResult 32 rest (Some x) → x.0.now ≡ decimal n
    → AreRead text msgs rest → AreRead text (msgs ++ n ∷ []) x.1.now
one_read text msgs rest x n small split is read =
    let parts : rest ≡ x.0.now ++ 32 ∷ x.1.now = (split_parts 32 rest (Some x) split (omega arith)).0 in
    record {
      small = all_append IsU64 msgs (n ∷ []) read.small (small, tt);
      whole = λ more spelt. grind (arith, common_steps, parts, read.whole (n ∷ more));
      only = λ all fits spelt. next (read.only all fits spelt);
    }
  where
    next : {all : List ℕ} → (more : List ℕ) × (all ≡ msgs ++ more) × AllByRecursion IsU64 more × (numbers_text more ≡ Some rest)
        → (more : List ℕ) × (all ≡ (msgs ++ n ∷ []) ++ more) × AllByRecursion IsU64 more × (numbers_text more ≡ Some x.1.now)
    next ([], same, fits, spelt) = absurd (none-some rest spelt)
    next (m ∷ more, same, fits, spelt) =
        let at = at_some rest x split (decimal m) (numbers_text more) (Lacks-decimal 32 m (omega arith) fits.0) (sym (same_Some _ _ spelt)) in
        (more, grind (arith, common_steps, decimal_injective m n fits.0 small), fits.1, at.1)

-- no numbers spell the text if the next word, whatever follows it, is not a number
pub none_if : (text msgs rest word : List ℕ) → ((n : ℕ) → n < 2 ^ 64 → word ≢ decimal n)
    → ((n : ℕ) (more : Option (List ℕ)) → Lacks 32 (decimal n) → rest ≡ spaced (decimal n) more → word ≡ decimal n)
    → AreRead text msgs rest → (all : List ℕ) → AllByRecursion IsU64 all → numbers_text all ≢ Some text
none_if text msgs rest word refused first read all fits spelt = stop (read.only all fits spelt)
  where
    stop : (more : List ℕ) × (all ≡ msgs ++ more) × AllByRecursion IsU64 more × (numbers_text more ≡ Some rest) → ⊥
    stop ([], same, fits, spelt) = absurd (none-some rest spelt)
    stop (m ∷ more, same, fits, spelt) = refused m fits.0 (first m (numbers_text more) (Lacks-decimal 32 m (omega arith) fits.0) (sym (same_Some _ _ spelt)))

-- one more number is spelt after a space
pub spelt_more : (word numbers : List ℕ) (n : ℕ) → spaced word (numbers_text (numbers ++ n ∷ [])) ≡ spaced word (numbers_text numbers) ++ 32 ∷ decimal n
spelt_more word [] n = refl
spelt_more word (m ∷ numbers) n =
    ap (λ text. word ++ 32 ∷ text) (spelt_more (decimal m) numbers n) ∙ sym (append_assoc word (32 ∷ spaced (decimal m) (numbers_text numbers)) (32 ∷ decimal n))
