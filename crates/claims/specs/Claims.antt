-- Keys that are claimed, each with a number, as a list: its entry at a key is the key's claim.
use Rattle.std.specs.Prelude.{ℕ, zero, suc, List, [], ◌∷◌, get_or, Option, Some, None}

-- the number with which this key is claimed; None: it isn't claimed
abbrev pub claim_of : List (Option ℕ) → ℕ → Option ℕ
claim_of claims key = get_or claims key None

-- the claims, with this key claimed with a number, or not claimed
abbrev pub put : List (Option ℕ) → ℕ → Option ℕ → List (Option ℕ)
put [] zero new = new ∷ []
put [] (suc key) new = None ∷ put [] key new
put (c ∷ cs) zero new = new ∷ cs
put (c ∷ cs) (suc key) new = c ∷ put cs key new

-- who has a claim changes its number, or gives it up; who has none changes nothing
abbrev pub changed : Option ℕ → Option ℕ → Option ℕ
changed None new = None
changed (Some n) new = new

-- the claims after that
abbrev pub put_changed : List (Option ℕ) → ℕ → (old new : Option ℕ) → List (Option ℕ)
put_changed claims key None new = claims
put_changed claims key (Some n) new = put claims key new
