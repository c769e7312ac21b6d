-- How an input is read as lines.
use Rattle.std.specs.Prelude.{◌≡◌, ◌≢◌, ◌<◌, ℕ, List, [], ◌∷◌, ◌++◌, ◌⊎◌, ⊤, Option, Some, None, All, OnSome, length}
use Rattle.std.specs.Io.{IsEmptyOrEndsWith}
use Rattle.std.specs.Io.KnownBytes.{IsAtEnd}
use Rattle.std.specs.Io.Buffered.{reader_remaining}
use Rattle.bcast_text.specs.declared.lines.Lines.{Lines}

-- bytes whose first line this is: those before the first LF, or all of them if there is no LF
pub record IsNextLine (bytes line rest : List ℕ) : Type 0 where
  pub one : All (λ byte. byte ≢ 10) line
  pub split : (bytes ≡ line ++ 10 ∷ rest) ⊎ ((bytes ≡ line) × (0 < length line) × (rest ≡ []))

-- bytes that begin with these lines, and what is left of them
abbrev pub BeginsWith : List ℕ → List (List ℕ) → List ℕ → Type 0
BeginsWith bytes [] rest = bytes ≡ rest
BeginsWith bytes (line ∷ lines) rest =
    (next : List ℕ) × IsNextLine bytes line next × BeginsWith next lines rest

-- these lines were read, as far as the bytes are known
abbrev pub ReadsLines : Option (List ℕ) → List (List ℕ) → Option (List ℕ) → Type 0
ReadsLines None lines left = ⊤
ReadsLines (Some bytes) lines None = ⊥
ReadsLines (Some bytes) lines (Some rest) = BeginsWith bytes lines rest

-- bytes that end with an LF, or after which there are none
abbrev pub EndsOrIsLast : List ℕ → Option (List ℕ) → Option (List ℕ) → Type 0
EndsOrIsLast bytes old new =
    ((0 < length bytes) × IsEmptyOrEndsWith bytes 10) ⊎ OnSome old (IsAtEnd new)

-- bytes with more than this many before their first LF
abbrev pub BeginsTooLong : ℕ → Option (List ℕ) → Type 0
BeginsTooLong longest None = ⊤
BeginsTooLong longest (Some bytes) =
    (front rest : List ℕ) × (bytes ≡ front ++ rest) × (longest < length front)
    × All (λ byte. byte ≢ 10) front

-- what is not read yet
abbrev pub unread : {R A : Type 0} → (R → Option (List ℕ)) → Lines R A → Option (List ℕ)
unread remaining lines = reader_remaining remaining lines.input

-- the line that was read last
abbrev pub text_of : {R A : Type 0} → Lines R A → List ℕ
text_of lines = lines.text.items

-- the most bytes that a line may have
abbrev pub longest_of : {R A : Type 0} → Lines R A → ℕ
longest_of lines = lines.longest
