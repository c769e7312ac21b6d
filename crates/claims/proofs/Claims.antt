-- What is claimed, after a key is claimed, or its claim given up.
use Rattle.std.proofs.Common.{◌≡◌, ℕ, zero, suc, List, [], ◌∷◌, Option, refl, ap}
use Rattle.claims.specs.Claims.{claim_of, put}

-- the key has the claim that was put
pub put_same : (cs : List (Option ℕ)) (key : ℕ) (new : Option ℕ) → claim_of (put cs key new) key ≡ new
put_same [] zero new = refl
put_same [] (suc key) new = put_same [] key new
put_same (c ∷ cs) zero new = refl
put_same (c ∷ cs) (suc key) new = put_same cs key new

-- each other key has the claim that it had
pub put_other : (cs : List (Option ℕ)) (key other : ℕ) (new : Option ℕ) → (other ≡ key → ⊥)
    → claim_of (put cs key new) other ≡ claim_of cs other
put_other [] zero zero new differ = absurd (differ refl)
put_other [] zero (suc other) new differ = refl
put_other [] (suc key) zero new differ = refl
put_other [] (suc key) (suc other) new differ = put_other [] key other new (λ e. differ (ap suc e))
put_other (c ∷ cs) zero zero new differ = absurd (differ refl)
put_other (c ∷ cs) zero (suc other) new differ = refl
put_other (c ∷ cs) (suc key) zero new differ = refl
put_other (c ∷ cs) (suc key) (suc other) new differ = put_other cs key other new (λ e. differ (ap suc e))
