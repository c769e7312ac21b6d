-- How many receivers have still to read a message.
use Rattle.std.proofs.Common.{◌≡◌, ◌≢◌, ℕ, ◌+◌, ◌≤◌, true, false, cond, List, [], ◌∷◌, length, Some, None, is_some, count_by, nat_le, refl, sym, ap, ◌∙◌, arith}
use Rattle.std.proofs.lemmas.Grind.{common_steps}
use Rattle.std.proofs.lemmas.Option.{none-some}
use Rattle.std.proofs.lemmas.List.Sums.{sum_by-le-sum_by, count_by-le-length}
use Rattle.std.specs.Prelude.{T, Option, IsSomeAnd}
use Rattle.std.specs.Ordering.{nat_cmp}
use Rattle.std.specs.Cmp.{nat_cmp_total}
use Rattle.std.specs.FinMap.{get, insert, remove, len, entries, entries_sorted, find, is_sorted, get-entries, len-entries, len-insert, get-insert, get-remove}
use Rattle.bcast_store.proofs.CountValues.{passing, one_if, count_cons, count_values-insert, count_values-remove}
use Rattle.std.specs.FinMap.Entries.{below_all}
use Rattle.bcast_model.specs.Control.{Cursors}
use Rattle.bcast_store.specs.Sound.{owes, owing_at}
use Rattle.bcast_model.proofs.DeliveryMaps.{removed_same, removed_other}
use Rattle.bcast_store.proofs.Least.{find_head, both_true, later}

found_owing : (n : ℕ) (es : List (ℕ × ℕ)) → T (is_sorted nat_cmp es) → 1 ≤ count_by (passing (owes n)) es → (k : ℕ) × (c : ℕ) × (find nat_cmp k es ≡ Some c) × (c ≤ n)
found_owing n [] s h = absurd (omega arith)
found_owing n (e ∷ es) s h =
    let p : T (below_all nat_cmp e.0 es) × T (is_sorted nat_cmp es) = both_true _ _ s in
    let a : count_by (passing (owes n)) (e ∷ es) ≡ cond (nat_le e.1 n) 1 0 + count_by (passing (owes n)) es = count_cons (owes n) e es in
    elim (nat_le e.1 n) as (λ b. nat_le e.1 n ≡ b → (k : ℕ) × (c : ℕ) × (find nat_cmp k (e ∷ es) ≡ Some c) × (c ≤ n)) [
      | true ↦ λ t. (e.0, e.1, find_head e es, grind (arith, common_steps, t))
      | false ↦ λ t.
          let z : ◌≡◌ {A = ℕ} (cond (nat_le e.1 n) 1 0) 0 = ap (λ b. cond b 1 0) t in
          let r = found_owing n es p.1 (omega (arith, a, z, h)) in
          (r.0, r.1, later r.0 e es r.1 p.0 r.2, r.3)
    ] refl

-- some receiver owes a message that is counted as owed
pub some_owes : (m : Cursors) (n : ℕ) → 1 ≤ owing_at m n → (k : ℕ) × (c : ℕ) × (get m k ≡ Some c) × (c ≤ n)
unfolding owing_at
some_owes m n h =
    let r = found_owing n (entries m) (entries_sorted m) h in
    (r.0, r.1, get-entries m r.0 ∙ r.2, r.3)

each_owes : (n : ℕ) (es : List (ℕ × ℕ)) → T (is_sorted nat_cmp es) → ((q c : ℕ) → find nat_cmp q es ≡ Some c → c ≤ n) → count_by (passing (owes n)) es ≡ length es
each_owes n [] s h = refl
each_owes n (e ∷ es) s h =
    let p : T (below_all nat_cmp e.0 es) × T (is_sorted nat_cmp es) = both_true _ _ s in
    let a : count_by (passing (owes n)) (e ∷ es) ≡ cond (nat_le e.1 n) 1 0 + count_by (passing (owes n)) es = count_cons (owes n) e es in
    let l : e.1 ≤ n = h e.0 e.1 (find_head e es) in
    let t : nat_le e.1 n ≡ true = grind (arith, common_steps, l) in
    let z : ◌≡◌ {A = ℕ} (cond (nat_le e.1 n) 1 0) 1 = ap (λ b. cond b 1 0) t in
    let r = each_owes n es p.1 (λ q c f. h q c (later q e es c p.0 f)) in
    omega (arith, a, z, r)

-- a message that no cursor is past is owed by every receiver
pub all_owe : (m : Cursors) (n : ℕ) → ((k c : ℕ) → get m k ≡ Some c → c ≤ n) → owing_at m n ≡ len m
unfolding owing_at
all_owe m n h = each_owes n (entries m) (entries_sorted m) (λ q c e. h q c (get-entries m q ∙ e)) ∙ sym (len-entries m)

pub few_owe : (m : Cursors) (n : ℕ) → owing_at m n ≤ len m
unfolding owing_at
few_owe m n = let a = count_by-le-length (passing (owes n)) (entries m) in let b = len-entries m in omega arith

-- a later message is owed by at least as many
pub owing-rises : (cs : Cursors) (m n : ℕ) → m ≤ n → owing_at cs m ≤ owing_at cs n
unfolding owing_at
owing-rises cs m n h = sum_by-le-sum_by (λ e. cond (passing (owes m) e) 1 0) (λ e. cond (passing (owes n) e) 1 0) (entries cs) (λ e. grind (arith, common_steps, h))

-- a cursor moves
pub owing-moved : (m : Cursors) (k d c n : ℕ) → get m k ≡ Some d → owing_at (insert m k c) n + cond (nat_le d n) 1 0 ≡ owing_at m n + cond (nat_le c n) 1 0
unfolding owing_at
owing-moved m k d c n e = let a = count_values-insert (owes n) m k c in let b = ap (one_if (owes n)) e in omega (arith, a, b)

-- a cursor is added
pub owing-joined : (m : Cursors) (k c n : ℕ) → get m k ≡ None → owing_at (insert m k c) n ≡ owing_at m n + cond (nat_le c n) 1 0
unfolding owing_at
owing-joined m k c n e = let a = count_values-insert (owes n) m k c in let b = ap (one_if (owes n)) e in omega (arith, a, b)

-- a cursor is removed
pub owing-left : (m : Cursors) (k d n : ℕ) → get m k ≡ Some d → owing_at (remove m k) n + cond (nat_le d n) 1 0 ≡ owing_at m n
unfolding owing_at
owing-left m k d n e = let a = count_values-remove (owes n) m k in let b = ap (one_if (owes n)) e in omega (arith, a, b)

-- a receiver that owes is counted
pub owes_counts : (m : Cursors) (n k c : ℕ) → get m k ≡ Some c → c ≤ n → 1 ≤ owing_at m n
owes_counts m n k c e l =
    let a = owing-left m k c n e in
    let t : nat_le c n ≡ true = grind (arith, common_steps, l) in
    let b : owing_at (remove m k) n + 1 ≡ owing_at m n = rw t at a in
    omega (arith, b)

-- another receiver owes a message that is owed more than once
pub another : (m : Cursors) (n k c : ℕ) → get m k ≡ Some c → 2 ≤ owing_at m n → (q : ℕ) × (d : ℕ) × (q ≢ k) × (get m q ≡ Some d) × (d ≤ n)
another m n k c e two =
    let a = owing-left m k c n e in
    let few : cond (nat_le c n) 1 0 ≤ 1 = elim (nat_le c n) as (λ x. cond x 1 0 ≤ 1) [ true ↦ omega arith | false ↦ omega arith ] in
    let r = some_owes (remove m k) n (omega (arith, a, few, two)) in
    let ne : r.0 ≢ k = λ s. none-some r.1 (sym (removed_same m k r.0 s) ∙ r.2) in
    (r.0, r.1, ne, sym (removed_other m k r.0 ne) ∙ r.2, r.3)

-- a cursor that is written is no greater than the end
pub reached : (end : ℕ) (m : Cursors) (k to q d : ℕ) → ((r e : ℕ) → get m r ≡ Some e → e ≤ end) → to ≤ end → get (insert m k to) q ≡ Some d → d ≤ end
reached end m k to q d old high f = let a = get-insert nat_cmp_total m k to q in grind (arith, common_steps, old q d, high, a, f)

pub stayed : (end : ℕ) (m : Cursors) (k q d : ℕ) → ((r e : ℕ) → get m r ≡ Some e → e ≤ end) → get (remove m k) q ≡ Some d → d ≤ end
stayed end m k q d old f = let a = get-remove nat_cmp_total m k q in grind (arith, common_steps, old q d, a, f)

pub len_joined : (m : Cursors) (k c : ℕ) → get m k ≡ None → len (insert m k c) ≡ len m + 1
len_joined m k c none = len-insert nat_cmp_total m k c ∙ ap (λ o. cond (is_some o) (len m) (len m + 1)) none

-- the value that a fact is of
pub found : {A : Type 0} (o : Option A) (P : A → Type 0) → IsSomeAnd o P → (x : A) × (o ≡ Some x) × P x
found None P h = absurd h
found (Some x) P h = (x, refl, h)
