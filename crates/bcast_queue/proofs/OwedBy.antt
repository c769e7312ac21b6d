-- How many readers owe each message, when the count of one message changes.
use Rattle.std.proofs.Common.{◌≡◌, ℕ, zero, suc, ◌+◌, ◌-◌, ◌<◌, ◌≤◌, All, List, [], ◌∷◌, ◌++◌, length, map, take, drop, get_or, set, Some, sum, refl, ap, sym, subst, ◌∙◌, arith}
use Rattle.std.proofs.lemmas.Grind.{common_steps}
use Rattle.std.specs.Prelude.{slice_get}
use Rattle.std.specs.Option.{ForSome}
use Rattle.std.proofs.lemmas.List.{append-nil, drop_all, length-map, take_all}
use Rattle.std.proofs.lemmas.List.Sums.{sum_by-cons}
use Rattle.circular_buffer.specs.Buffer.{last_item}
use Rattle.bcast_queue.specs.Queue.{one_more_from, one_fewer_from}
use Rattle.bcast_queue.specs.Entries.{owed_by, more_from, AreCounted}
use Rattle.bcast_queue.proofs.Owed.{RisesFrom}

pub length-owed_by : (b : ℕ) (ns : List ℕ) → length (owed_by b ns) ≡ length ns
length-owed_by b [] = refl
length-owed_by b (n ∷ ns) = ap suc (length-owed_by (b + n) ns)

rises_by : (b : ℕ) (ns : List ℕ) → RisesFrom b (owed_by b ns)
rises_by b [] = tt
rises_by b (n ∷ ns) = (omega arith, rises_by (b + n) ns)

-- if some reader owes the first message, each message is owed, and no later one by fewer
pub RisesFrom-owed_by : (ns : List ℕ) → (0 < length ns → 0 < get_or ns 0 0) → RisesFrom 1 (owed_by 0 ns)
RisesFrom-owed_by [] some = tt
RisesFrom-owed_by (n ∷ ns) some = (omega (arith, some (omega arith)), rises_by (0 + n) ns)

-- so many readers more before the first message
pub more_before : (b c r : ℕ) (ns : List ℕ) → c ≡ b + r → owed_by c ns ≡ map (λ n. n + r) (owed_by b ns)
more_before b c r [] e = refl
more_before b c r (n ∷ ns) e =
    let head : c + n ≡ b + n + r = omega arith in
    let rest = more_before (b + n) (c + n) r ns head in
    cc

one_fewer : (b c : ℕ) (ns : List ℕ) → c + 1 ≡ b → owed_by c ns ≡ map (λ n. n - 1) (owed_by b ns)
one_fewer b c [] e = refl
one_fewer b c (n ∷ ns) e =
    let more : c + n + 1 ≡ b + n = omega arith in
    let head : c + n ≡ b + n - 1 = omega arith in
    let rest = one_fewer (b + n) (c + n) ns more in
    cc

-- readers more or one fewer at an index are more or one fewer from there on
pub owed_by-more : (b r i m : ℕ) (ns : List ℕ) → i < length ns → m ≡ get_or ns i 0 + r → owed_by b (set ns i m) ≡ more_from r i (owed_by b ns)
owed_by-more b r i m [] h e = absurd (omega arith)
owed_by-more b r zero m (n ∷ ns) h e = grind (arith, common_steps, more_before)
owed_by-more b r (suc i) m (n ∷ ns) h e = ap (λ xs. (b + n) ∷ xs) (owed_by-more (b + n) r i m ns (omega arith) e)

pub owed_by-fewer : (b i m : ℕ) (ns : List ℕ) → i < length ns → m + 1 ≡ get_or ns i 0 → owed_by b (set ns i m) ≡ one_fewer_from i (owed_by b ns)
owed_by-fewer b i m [] h e = absurd (omega arith)
owed_by-fewer b zero m (n ∷ ns) h e = grind (arith, common_steps, one_fewer)
owed_by-fewer b (suc i) m (n ∷ ns) h e = ap (λ xs. (b + n) ∷ xs) (owed_by-fewer (b + n) i m ns (omega arith) e)

pub owed_by-push : (b n : ℕ) (ns : List ℕ) → owed_by b (ns ++ n ∷ []) ≡ owed_by b ns ++ (b + sum ns + n) ∷ []
owed_by-push b n [] = let e : b + n ≡ b + 0 + n = omega arith in ap (λ x. x ∷ []) e
owed_by-push b n (m ∷ ns) = grind (arith, common_steps, sum_by-cons, owed_by-push (b + m) n ns)

-- a message that goes leaves its count to the next
pub owed_by-rest : (r : ℕ) (ns : List ℕ) → get_or ns 0 0 ≡ r → more_from r 0 (owed_by 0 (drop 1 ns)) ≡ drop 1 (owed_by 0 ns)
owed_by-rest r [] e = refl
owed_by-rest r (n ∷ ns) e = sym (more_before 0 (0 + n) r ns (omega (arith, e)))

-- no index is changed from the length on
pub same_at_end : (f : ℕ → ℕ) (i : ℕ) (ns : List ℕ) → length ns ≤ i → take i ns ++ map f (drop i ns) ≡ ns
same_at_end f i ns h = ap (λ ms. take i ns ++ map f ms) (drop_all i ns h) ∙ append-nil (take i ns) ∙ take_all i ns h

pub more_from-end : (r i : ℕ) (ns : List ℕ) → length ns ≤ i → more_from r i ns ≡ ns
more_from-end r i ns h = same_at_end (λ n. n + r) i ns h

last_at : (b n : ℕ) (ns : List ℕ) → slice_get (owed_by b (n ∷ ns)) (length (owed_by (b + n) ns)) ≡ Some (b + sum (n ∷ ns))
last_at b n [] = let e : b + n ≡ b + sum (n ∷ []) = omega (arith, sum_by-cons (λ x. x) n []) in ap Some e
last_at b n (m ∷ ns) = grind (arith, common_steps, sum_by-cons, last_at (b + n) m ns)

-- all owing readers owe the last message
last-owed_by : (b n : ℕ) (ns : List ℕ) → last_item (owed_by b (n ∷ ns)) ≡ Some (b + sum (n ∷ ns))
last-owed_by b n ns =
    let at : suc (length (owed_by (b + n) ns)) - 1 ≡ length (owed_by (b + n) ns) = omega arith in
    ap (slice_get (owed_by b (n ∷ ns))) at ∙ last_at b n ns

pub sum_le : (top : ℕ) (ns : List ℕ) → ForSome (last_item (owed_by 0 ns)) (λ n. n ≤ top) → sum ns ≤ top
sum_le top [] last = omega arith
sum_le top (n ∷ ns) last = omega (arith, last (0 + sum (n ∷ ns)) (last-owed_by 0 n ns))

-- a message is owed by more readers than the one before it if some reader reads it next
pub next_owed : (b i : ℕ) (ns : List ℕ) → suc i < length ns → get_or (owed_by b ns) (suc i) 0 ≡ get_or (owed_by b ns) i 0 + get_or ns (suc i) 0
next_owed b i [] h = absurd (omega arith)
next_owed b i (n ∷ []) h = absurd (omega arith)
next_owed b zero (n ∷ m ∷ ns) h = refl
next_owed b (suc i) (n ∷ m ∷ ns) h = next_owed (b + n) i (m ∷ ns) (omega arith)

pub somebody_next : (b i : ℕ) (ns : List ℕ) → i < length ns → 0 < i → get_or (owed_by b ns) (i - 1) 0 < get_or (owed_by b ns) i 0 → 0 < get_or ns i 0
somebody_next b zero ns within h above = absurd (omega arith)
somebody_next b (suc i) ns within h above =
    let at : suc i - 1 ≡ i = omega arith in
    omega (arith, next_owed b i ns within, rw at at above)

pub get_or-owed_by : (ns : List ℕ) → get_or (owed_by 0 ns) 0 0 ≡ get_or ns 0 0
get_or-owed_by [] = refl
get_or-owed_by (n ∷ ns) = omega arith

-- some reader owes the first message if no message is owed by none
pub first_is_owed : (ns ms : List ℕ) → owed_by 0 ns ≡ ms → RisesFrom 1 ms → 0 < length ns → 0 < get_or ns 0 0
first_is_owed [] ms e r some = absurd (omega (arith, some))
first_is_owed (n ∷ ns) ms e r some = omega (arith, (subst (RisesFrom 1) (sym e) r).0)

-- a reader is counted at a message that more owe than the one before it
pub reader_of : (t i : ℕ) (ns : List ℕ) → AreCounted t ns → i < length ns → (0 < i → get_or (owed_by 0 ns) (i - 1) 0 < get_or (owed_by 0 ns) i 0) → 0 < get_or ns i 0
reader_of t zero ns counted within before = counted.owed (omega (arith, within))
reader_of t (suc i) ns counted within before = somebody_next 0 (suc i) ns within (omega arith) (before (omega arith))

all_back : (ns : List ℕ) → All (λ n. 1 ≤ n) ns → map (λ n. n + 1) (map (λ n. n - 1) ns) ≡ ns
all_back [] some = refl
all_back (n ∷ ns) some = grind (arith, common_steps, some 0 0 (omega arith), all_back ns (λ k d h. some (suc k) d (omega arith)))

-- a reader that moves on by no message owes what it owed
pub one_stays : (i : ℕ) (ns : List ℕ) → All (λ n. 1 ≤ n) ns → one_more_from i (one_fewer_from i ns) ≡ ns
one_stays zero ns some = all_back ns some
one_stays (suc i) [] some = refl
one_stays (suc i) (n ∷ ns) some = ap (λ xs. n ∷ xs) (one_stays i ns (λ k d h. some (suc k) d (omega arith)))

-- and one that moves on by one message no longer owes that message
pub one_moves : (i : ℕ) (ns : List ℕ) → All (λ n. 1 ≤ n) ns → one_more_from (suc i) (one_fewer_from i ns) ≡ set ns i (get_or ns i 0 - 1)
one_moves zero [] some = refl
one_moves (suc i) [] some = refl
one_moves zero (n ∷ ns) some = ap (λ xs. (n - 1) ∷ xs) (all_back ns (λ k d h. some (suc k) d (omega arith)))
one_moves (suc i) (n ∷ ns) some = ap (λ xs. n ∷ xs) (one_moves i ns (λ k d h. some (suc k) d (omega arith)))

-- the first message is still owed if a reader moves on from a message that several readers owe
pub first_left : (i j : ℕ) (ns : List ℕ) → RisesFrom 1 ns → 1 < get_or ns i 0 → 0 < get_or (one_more_from j (one_fewer_from i ns)) 0 0
first_left i j [] r several = absurd (omega (arith, several))
first_left zero zero (n ∷ ns) r several = omega arith
first_left zero (suc j) (n ∷ ns) r several = omega (arith, several)
first_left (suc i) zero (n ∷ ns) r several = omega arith
first_left (suc i) (suc j) (n ∷ ns) r several = omega (arith, r.0)

-- what the check needs where readers are added
pub ruleset added_readers = (common_steps, owed_by-more, more_from-end, length-owed_by, length-map)
