-- What a reader that leaves owes no more, and the messages at the front that no reader owes then.
use Rattle.std.proofs.Common.{◌≡◌, ℕ, ◌+◌, ◌<◌, List, [], ◌∷◌, length, drop, get_or, set, sum, Bool, true, false, cond, count_by, refl, arith}
use Rattle.std.proofs.lemmas.Grind.{common_steps}
use Rattle.std.specs.List.{prefix_len}
use Rattle.std.proofs.lemmas.List.{get_or-set_other}
use Rattle.std.proofs.lemmas.List.Sums.{sum_by-cons, sum_by-set}
use Rattle.bcast_queue.specs.Queue.{one_fewer_from}
use Rattle.bcast_queue.specs.Entries.{owed_by, AreCounted}
use Rattle.bcast_queue.proofs.Owed.{nobody, none_gone, count_head}
use Rattle.bcast_queue.proofs.OwedBy.{RisesFrom-owed_by, owed_by-fewer}

-- the counts that are left of `ns` when a reader that is counted at the index i leaves
pub record AreLeft (t i : ℕ) (ns ms : List ℕ) : Type 0 where
  pub owed : owed_by 0 ms ≡ one_fewer_from i (owed_by 0 ns)
  pub summed : t ≡ sum ms + 1
  pub first : 0 < i → 0 < get_or ms 0 0

pub AreLeft-set : (t i m : ℕ) (ns ms : List ℕ) → AreCounted t ns → i < length ns → m + 1 ≡ get_or ns i 0 → ms ≡ set ns i m → AreLeft t i ns ms
AreLeft-set t i m ns ms counted within fewer is = grind (arith, common_steps, owed_by-fewer, sum_by-set, get_or-set_other)

-- the first k messages are those that no reader owes
pub record AreUnowed (ns : List ℕ) (k : ℕ) : Type 0 where
  pub gone : count_by nobody (owed_by 0 ns) ≡ k
  pub owed : drop k (owed_by 0 ns) ≡ owed_by 0 (drop k ns)
  pub summed : sum (drop k ns) ≡ sum ns
  pub first : 0 < length (drop k ns) → 0 < get_or (drop k ns) 0 0

AreUnowed-if : (n k : ℕ) (ns : List ℕ) → AreUnowed ns k → (b : Bool) → nobody n ≡ b → AreUnowed (n ∷ ns) (cond b (1 + k) 0)
AreUnowed-if n k ns rest true is = grind (arith, common_steps, count_head, nobody, sum_by-cons)
AreUnowed-if n k ns rest false is =
    let some : 0 < n = grind (arith, is) in
    record {
      gone = none_gone 1 (owed_by 0 (n ∷ ns)) (omega arith) (RisesFrom-owed_by (n ∷ ns) (λ _. omega (arith, some)));
      owed = refl;
      summed = refl;
      first = λ _. some;
    }

-- they are those that no reader reads next
pub AreUnowed-front : (ns : List ℕ) → AreUnowed ns (prefix_len nobody ns)
AreUnowed-front [] = record { gone = refl; owed = refl; summed = refl; first = λ h. absurd (omega arith) }
AreUnowed-front (n ∷ ns) = AreUnowed-if n (prefix_len nobody ns) ns (AreUnowed-front ns) (nobody n) refl
