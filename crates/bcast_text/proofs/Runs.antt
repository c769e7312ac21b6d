-- Runs over lines, one after the other.
use Rattle.std.proofs.Common.{◌≡◌, ◌≢◌, ℕ, ◌+◌, Bool, List, [], ◌∷◌, ◌++◌, Option, append-nil, refl, sym, ap, subst, ◌∙◌, arith, append_assoc}
use Rattle.std.proofs.lemmas.Grind.{common_steps}
use Rattle.std.proofs.KnownBytes.{Appends-nil, Appends-trans, Appends-kept}
use Rattle.std.specs.Io.KnownBytes.{Keeps, Appends}
use Rattle.bcast_text.specs.Lines.{BeginsWith, ReadsLines}
use Rattle.bcast_text.specs.Run.{AreAnswered, Answered, EndsLines, IsRun}
use Rattle.bcast_text.specs.declared.ending.Ending.{Ending}
use Rattle.bcast_text.specs.declared.ending.Ending.TheVariants.{Done, NotACall}

begins_both : (bytes : List ℕ) (xs ys : List (List ℕ)) (mid rest : List ℕ) → BeginsWith bytes xs mid → BeginsWith mid ys rest → BeginsWith bytes (xs ++ ys) rest
begins_both bytes [] ys mid rest same more = subst (λ b. BeginsWith b ys rest) (sym same) more
begins_both bytes (x ∷ xs) ys mid rest (next, is, front) more = (next, is, begins_both next xs ys mid rest front more)

reads_both : (a b c : Option (List ℕ)) (xs ys : List (List ℕ)) → ReadsLines a xs b → ReadsLines b ys c → ReadsLines a (xs ++ ys) c
reads_both a b c xs ys p q = grind (arith, begins_both)

module _ {S : Type 0} (answers : S → List ℕ → List ℕ → S → Type 0) where
  answered_both : (s t u : S) (xs ys : List (List ℕ)) (x y : List ℕ) → AreAnswered answers s xs x t → AreAnswered answers t ys y u
      → AreAnswered answers s (xs ++ ys) (x ++ y) u
  answered_both s t u [] ys x y (none, same) more = rw (none, ← same) more
  answered_both s t u (l ∷ ls) ys x y (next, answer, rest, one, front, is) more =
      (next, answer, rest ++ y, one, answered_both next t u ls ys rest y front more, ap (λ l. l ++ y) is ∙ append_assoc answer rest y)

  -- before the first line
  none_yet : (input before : Option (List ℕ)) (s : S) → Answered answers input input before before s s 0
  none_yet input before s = grind (arith, common_steps, Appends-nil)

  -- the answer to one line
  pub one_line : (a b x y z : Option (List ℕ)) (s t : S) (line answer : List ℕ)
      → ReadsLines a (line ∷ []) b → Keeps x y → answers s line answer t → Appends y z answer
      → Answered answers a b x z s t 1
  one_line a b x y z s t line answer read same is wrote =
      let answered : AreAnswered answers s (line ∷ []) answer t =
      (t, answer, [], is, (refl, refl), sym (append-nil answer)) in
      grind (arith, common_steps, answered)

  -- one more line
  pub one_more : {a b c x y z : Option (List ℕ)} {s t u : S} {n : ℕ} → Answered answers a b x y s t n → Answered answers b c y z t u 1
      → (more : ℕ) → more ≡ n + 1 → Answered answers a c x z s u more
  one_more before one more is =
      let read = reads_both _ _ _ _ _ before.read one.read in
      let answered = answered_both _ _ _ _ _ _ _ before.answered one.answered in
      grind (arith, common_steps, read, answered, Appends-trans)

  -- nothing is written after it
  pub nothing_more : {a b x y z : Option (List ℕ)} {s t : S} {n : ℕ} → Answered answers a b x y s t n → Keeps y z → Answered answers a b x z s t n
  nothing_more before same =
      let written = Appends-kept _ _ _ before.text before.written same in
      grind (arith, common_steps, written)

module _ {S : Type 0} {refuses : S → List ℕ → Type 0} {may_be_empty : Bool} {longest : ℕ} (answers : S → List ℕ → List ℕ → S → Type 0) where
  -- no line is read
  pub no_line : (input before : Option (List ℕ)) (s : S) (e : Ending) → EndsLines e → e ≢ Done → ((line : ℕ) → e ≢ NotACall line)
      → IsRun refuses may_be_empty longest answers input before before s s e
  no_line input before s e ends not_done called =
      grind (arith, common_steps, none_yet answers input before s)
