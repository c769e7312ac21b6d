-- The run of a program over the lines of its input.
use Rattle.std.specs.Prelude.{◌≡◌, ℕ, ◌+◌, ◌-◌, ◌^◌, ◌≤◌, List, [], ◌∷◌, ◌++◌, Bool, true, false, Option, length, ⊤, IsUtf8}
use Rattle.std.specs.Io.KnownBytes.{Appends, IsAtEnd}
use Rattle.bcast_text.specs.Lines.{ReadsLines, BeginsTooLong}
use Rattle.bcast_text.specs.declared.ending.Ending.{Ending}
use Rattle.bcast_text.specs.declared.ending.Ending.TheVariants.{Done, Differ, WrongArguments, NotACall, NoThread}

module _ {S : Type 0} (answers : S → List ℕ → List ℕ → S → Type 0) where
  -- from the state `old` on, the lines are answered in turn, and the answers together are the text
  abbrev pub AreAnswered : S → List (List ℕ) → List ℕ → S → Type 0
  AreAnswered old [] text new = (text ≡ []) × (new ≡ old)
  AreAnswered old (line ∷ lines) text new =
      (next : S) × (answer rest : List ℕ) × answers old line answer next
      × AreAnswered next lines rest new × (text ≡ answer ++ rest)

  -- this many lines of an input were read from its start, and what was written are their answers
  pub record Answered
      (input left : Option (List ℕ)) (before after : Option (List ℕ)) (old new : S) (number : ℕ)
      : Type 0 where
    pub lines : List (List ℕ)
    pub count : length lines ≡ number
    pub text : List ℕ
    pub read : ReadsLines input lines left
    pub answered : AreAnswered old lines text new
    pub written : Appends before after text

-- how a run over lines may end
abbrev pub EndsLines : Ending → Type 0
EndsLines Differ = ⊥
EndsLines (WrongArguments program) = ⊥
EndsLines NoThread = ⊥
EndsLines other = ⊤

module _ {S : Type 0} (refuses : S → List ℕ → Type 0) (may_be_empty : Bool) (longest : ℕ) where
  -- why what is left of an input does not begin with a call, in this state, as line of this number
  pub data IsRefused (left : Option (List ℕ)) (old : S) (number : ℕ) : Type 0 where
    -- there is no line, and there must be one
    no_line : IsAtEnd left → number ≤ 1 → may_be_empty ≡ false → IsRefused left old number
    -- it is too long
    too_long : BeginsTooLong longest left → IsRefused left old number
    -- it is not UTF-8 text
    no_text : (line : List ℕ) (rest : Option (List ℕ)) → ReadsLines left (line ∷ []) rest
        → (IsUtf8 line → ⊥) → IsRefused left old number
    -- the program refuses it
    no_call : (line : List ℕ) (rest : Option (List ℕ)) → ReadsLines left (line ∷ []) rest
        → refuses old line → IsRefused left old number
    -- no line of this number is run
    last : number ≡ 2 ^ 64 - 1 → IsRefused left old number

  -- a run that ended so, unless a write failed: what was written are the answers to the lines that
  -- were read; these are all lines if it is done, and those before the line that is not a call
  pub record IsRun
      (answers : S → List ℕ → List ℕ → S → Type 0) (input : Option (List ℕ))
      (before after : Option (List ℕ)) (old new : S) (ending : Ending) : Type 0 where
    pub left : Option (List ℕ)
    pub last : S
    pub count : ℕ
    pub answered : Answered answers input left before after old last count
    pub ends : EndsLines ending
    pub done : ending ≡ Done → IsAtEnd left × (new ≡ last) × (count ≡ 0 → may_be_empty ≡ true)
    pub not_a_call : (number : ℕ) → ending ≡ NotACall number
        → (number ≡ count + 1) × IsRefused left last number

-- if the ending names a line, it is the line of this number
abbrev pub IsNumbered : ℕ → Ending → Type 0
IsNumbered number (NotACall line) = line ≡ number
IsNumbered number other = ⊤
