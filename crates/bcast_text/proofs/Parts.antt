-- A text, and a part that was read after it.
use Rattle.std.proofs.Common.{◌≡◌, ◌≢◌, ℕ, List, [], All, OnSome, Option, length, drop, refl, sym, subst, arith}
use Rattle.std.proofs.lemmas.Grind.{common_steps}
use Rattle.std.proofs.lemmas.List.Elements.{All-append}
use Rattle.std.proofs.KnownBytes.{Consumes-more, starts_with_rest}
use Rattle.std.proofs.Transfers.{StopsAt-append}
use Rattle.std.specs.Io.{StartsWith, StopsAt, IsEmptyOrEndsWith}
use Rattle.std.specs.Io.KnownBytes.{Consumes, IsAtEnd}
use Rattle.bcast_text.specs.Lines.{EndsOrIsLast}

module _ (old new : List ℕ) (front : StartsWith new old) where
  pub StopsAt_both : All (λ x. x ≢ 10) old → StopsAt (drop (length old) new) 10 → StopsAt new 10
  StopsAt_both none stops = subst (λ l. StopsAt l 10) (sym (starts_with_rest new old front)) (StopsAt-append old _ 10 none stops)

  pub Consumes_both : (a b c : Option (List ℕ)) → Consumes a b old
      → Consumes b c (drop (length old) new) → Consumes a c new
  Consumes_both a b c p q = Consumes-more a b c [] old new refl front p q

  pub All_both : All (λ x. x ≢ 10) old → All (λ x. x ≢ 10) (drop (length old) new) → All (λ x. x ≢ 10) new
  All_both none more = subst (All (λ x. x ≢ 10)) (sym (starts_with_rest new old front)) (All-append (λ x. x ≢ 10) old _ none more)

-- if a part is the last or ends with an LF, so does the text with it
pub whole_both : (old new : List ℕ) → StartsWith new old → (a b c : Option (List ℕ)) → Consumes a b old
    → IsEmptyOrEndsWith (drop (length old) new) 10
    → (length (drop (length old) new) ≡ 0 → OnSome b (IsAtEnd c)) → EndsOrIsLast new a c
whole_both old new front a b c p ends last = grind (arith, common_steps)

-- what the check needs for parts that are read one after the other
pub ruleset parts = (Consumes_both, StopsAt_both, All_both, whole_both)
