-- The counts of a changed queue, index by index.
use Rattle.std.proofs.Common.{◌≡◌, ℕ, zero, suc, ◌+◌, ◌-◌, ◌<◌, ◌≤◌, cond, eqb, nat_le, List, [], ◌∷◌, length, map, take, drop, get_or, count_by, refl, arith, length-append, length-drop, length-take}
use Rattle.std.proofs.lemmas.Grind.{common_steps}
use Rattle.std.proofs.lemmas.List.{length-map, get_or-map}
use Rattle.bcast_queue.specs.Queue.{one_more_from, one_fewer_from}
use Rattle.bcast_queue.proofs.Owed.{nobody, count_head}

pub length-one_fewer_from : (i : ℕ) (ns : List ℕ) → length (one_fewer_from i ns) ≡ length ns
length-one_fewer_from i ns = omega (arith, length-append (take i ns) (map (λ n. n - 1) (drop i ns)), length-take i ns, length-map (drop i ns) (λ n. n - 1), length-drop i ns)

pub get_or-one_more_from : (i : ℕ) (ns : List ℕ) (j : ℕ) → j < length ns → get_or (one_more_from i ns) j 0 ≡ get_or ns j 0 + cond (nat_le i j) 1 0
get_or-one_more_from zero ns j h = grind (arith, common_steps, get_or-map)
get_or-one_more_from (suc i) [] j h = absurd (omega arith)
get_or-one_more_from (suc i) (n ∷ ns) zero h = grind (arith, common_steps)
get_or-one_more_from (suc i) (n ∷ ns) (suc j) h = grind (arith, common_steps, get_or-one_more_from i ns j (omega arith))

pub get_or-one_fewer_from : (i : ℕ) (ns : List ℕ) (j : ℕ) → j < length ns → (i ≤ j → 1 ≤ get_or ns j 0) → get_or (one_fewer_from i ns) j 0 + cond (nat_le i j) 1 0 ≡ get_or ns j 0
get_or-one_fewer_from zero ns j h some = grind (arith, common_steps, get_or-map)
get_or-one_fewer_from (suc i) [] j h some = absurd (omega arith)
get_or-one_fewer_from (suc i) (n ∷ ns) zero h some = grind (arith, common_steps)
get_or-one_fewer_from (suc i) (n ∷ ns) (suc j) h some =
    let e = get_or-one_fewer_from i ns j (omega arith) (λ l. some (omega arith)) in
    grind (arith, common_steps, e)

-- if none is 0 from m on, at most m are
pub few_gone : (m : ℕ) (ns : List ℕ) → ((i : ℕ) → m ≤ i → i < length ns → 1 ≤ get_or ns i 0) → count_by nobody ns ≤ m
few_gone m [] some = omega arith
few_gone zero (n ∷ ns) some =
    let h : 1 ≤ n = some 0 (omega arith) (omega arith) in
    let r = few_gone zero ns (λ i l b. some (suc i) (omega arith) (omega arith)) in
    let e = count_head n ns (eqb n 0) refl in
    grind (arith, common_steps, h, r, e)
few_gone (suc m) (n ∷ ns) some =
    let r = few_gone m ns (λ i l b. some (suc i) (omega arith) (omega arith)) in
    let e = count_head n ns (eqb n 0) refl in
    grind (arith, common_steps, r, e)
