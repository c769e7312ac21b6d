-- Lists of counts that never fall, and the counts at the front that are 0.
use Rattle.std.proofs.Common.{◌≡◌, ℕ, zero, suc, ◌+◌, ◌<◌, ◌≤◌, Bool, cond, eqb, List, [], ◌∷◌, length, drop, get_or, count_by, refl, ap, ◌∙◌, arith, eq-eqb}
use Rattle.std.proofs.lemmas.Grind.{common_steps}
use Rattle.std.proofs.lemmas.List.Sums.{sum_by-cons}
use Rattle.std.specs.List.{prefix_len}
use Rattle.std.specs.List.Sorted.{IsNonDecreasing}

-- each count is at least the one before it, and the first at least `low`
abbrev pub RisesFrom : ℕ → List ℕ → Type 0
RisesFrom low [] = Unit {0}
RisesFrom low (n ∷ ns) = (low ≤ n) × RisesFrom n ns

pub RisesFrom-weaker : (a b : ℕ) (ns : List ℕ) → a ≤ b → RisesFrom b ns → RisesFrom a ns
RisesFrom-weaker a b [] h r = tt
RisesFrom-weaker a b (n ∷ ns) h r = (omega (arith, r.0), r.1)

pub RisesFrom-rest : (low n : ℕ) (ns : List ℕ) → RisesFrom low (n ∷ ns) → RisesFrom low ns
RisesFrom-rest low n ns r = RisesFrom-weaker low n ns r.0 r.1

pub RisesFrom-drop : (low : ℕ) (ns : List ℕ) → RisesFrom low ns → RisesFrom low (drop 1 ns)
RisesFrom-drop low [] r = tt
RisesFrom-drop low (n ∷ ns) r = RisesFrom-rest low n ns r

pub at_least : (low : ℕ) (ns : List ℕ) → RisesFrom low ns → (k d : ℕ) → k < length ns → low ≤ get_or ns k d
at_least low [] r k d h = absurd (omega arith)
at_least low (n ∷ ns) r zero d h = r.0
at_least low (n ∷ ns) r (suc k) d h = at_least low ns (RisesFrom-rest low n ns r) k d (omega arith)

pub IsNonDecreasing-from_rises : (low : ℕ) (ns : List ℕ) → RisesFrom low ns → IsNonDecreasing ns
IsNonDecreasing-from_rises low [] r i j d h k = absurd (omega arith)
IsNonDecreasing-from_rises low (n ∷ ns) r zero zero d h k = omega arith
IsNonDecreasing-from_rises low (n ∷ ns) r zero (suc j) d h k = at_least n ns r.1 j d (omega arith)
IsNonDecreasing-from_rises low (n ∷ ns) r (suc i) zero d h k = absurd (omega arith)
IsNonDecreasing-from_rises low (n ∷ ns) r (suc i) (suc j) d h k = IsNonDecreasing-from_rises n ns r.1 i j d (omega arith) (omega arith)

-- ---- those at the front that are 0
-- no reader
abbrev pub nobody : ℕ → Bool
nobody n = eqb n 0

pub count_head : (n : ℕ) (ns : List ℕ) (b : Bool) → nobody n ≡ b → count_by nobody (n ∷ ns) ≡ cond b 1 0 + count_by nobody ns
count_head n ns b is = sum_by-cons (λ m. cond (nobody m) 1 0) n ns ∙ ap (λ t. cond t 1 0 + count_by nobody ns) is

-- a list that rises from above 0 has no 0
pub none_gone : (low : ℕ) (ns : List ℕ) → 0 < low → RisesFrom low ns → count_by nobody ns ≡ 0
none_gone low [] h r = refl
none_gone low (n ∷ ns) h r = grind (arith, common_steps, count_head, none_gone n ns (omega (arith, r.0)) r.1)

-- if no reader reads the first message next, one more is gone
pub one_nobody : (ns : List ℕ) → 0 < length ns → get_or ns 0 0 ≡ 0 → prefix_len nobody ns ≡ 1 + prefix_len nobody (drop 1 ns)
one_nobody [] some none = absurd (omega arith)
one_nobody (n ∷ ns) some none = ap (λ b. cond b (1 + prefix_len nobody ns) 0) (eq-eqb n 0 none)
