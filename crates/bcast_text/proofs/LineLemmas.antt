-- Lines that were read, as bytes that were consumed.
use Rattle.std.proofs.Common.{◌≡◌, ◌≢◌, ◌<◌, ◌-◌, ℕ, List, [], ◌∷◌, ◌++◌, All, Option, length, arith, get_or}
use Rattle.std.proofs.lemmas.Grind.{common_steps}
use Rattle.std.specs.Io.{StopsAt}
use Rattle.std.specs.Io.KnownBytes.{Consumes}
use Rattle.bcast_text.specs.Lines.{ReadsLines, EndsOrIsLast, BeginsTooLong}

-- bytes that were consumed with an LF at their end are a line
pub ended_line : (a b : Option (List ℕ)) (text line : List ℕ) → text ≡ line ++ 10 ∷ [] → StopsAt text 10 → Consumes a b text
    → ReadsLines a (line ∷ []) b
ended_line a b text line is stops p =
    let one : All (λ x. x ≢ 10) line = λ k d below. grind (arith, common_steps, stops k d) in
    grind (arith, common_steps, one)

-- bytes that stop at an LF, and do not end with one, have none
no_lf : (text : List ℕ) → get_or text (length text - 1) 0 ≢ 10 → StopsAt text 10
    → All (λ x. x ≢ 10) text
no_lf text not stops k d below = grind (arith, common_steps, stops k d)

-- bytes that were consumed to the end, without an LF, are a line
pub last_line : (a b : Option (List ℕ)) (text : List ℕ) → 0 < length text → get_or text (length text - 1) 0 ≢ 10
    → StopsAt text 10 → Consumes a b text → EndsOrIsLast text a b → ReadsLines a (text ∷ []) b
last_line a b text some not stops p last = grind (arith, common_steps, no_lf)

-- bytes that were consumed without an LF, and are more than a line may have
pub long_line : (a b : Option (List ℕ)) (text : List ℕ) (longest : ℕ) → longest < length text → get_or text (length text - 1) 0 ≢ 10
    → StopsAt text 10 → Consumes a b text → BeginsTooLong longest a
long_line a b text longest long not stops p = grind (arith, common_steps, no_lf text not stops)

-- what the check needs for the next line
pub ruleset lines_read = (ended_line, last_line, long_line)
