-- The least of the end and the cursors is at most each of them, and no lower bound is above it.
use Rattle.std.proofs.Common.{◌≡◌, ℕ, ◌<◌, ◌≤◌, Bool, true, false, cond, List, [], ◌∷◌, length, map, Some, None, refl, sym, ◌∙◌, arith, nat_cmp, T, ◌&&◌, nat_lt, ◌==◌, is_lt}
use Rattle.std.proofs.lemmas.Grind.{common_steps}
use Rattle.std.specs.Cmp.{unsigned_tied}
use Rattle.std.specs.FinMap.{get, insert, len, values, entries, entries_sorted, find, is_sorted, get-entries, len-entries}
use Rattle.std.specs.FinMap.Entries.{below_all}
use Rattle.std.specs.declared.cmp.Ordering.TheVariants.{Less, Equal, Greater}
use Rattle.std.proofs.lemmas.Option.{none-some}
use Rattle.bcast_model.specs.Words.{Cursors, least}
use Rattle.bcast_model.proofs.DeliveryMaps.{inserted}

-- it is no greater than a cursor
least_found : (limit q c : ℕ) (es : List (ℕ × ℕ)) → find nat_cmp q es ≡ Some c → least limit (map (λ e. e.1) es) ≤ c
least_found limit q c [] h = absurd (none-some c h)
least_found limit q c (e ∷ es) h =
    grind (arith, common_steps, least_found limit q c es, h)

pub least-le-cursor : (limit : ℕ) (m : Cursors) (q c : ℕ) → get m q ≡ Some c → least limit (values m) ≤ c
least-le-cursor limit m q c h = least_found limit q c (entries m) (sym (get-entries m q) ∙ h)

pub least-le-limit : (limit : ℕ) (ns : List ℕ) → least limit ns ≤ limit
least-le-limit limit [] = omega arith
least-le-limit limit (n ∷ ns) = let r = least-le-limit limit ns in omega arith

-- what is no greater than each cursor is no greater than the least
pub find_head : (e : ℕ × ℕ) (es : List (ℕ × ℕ)) → find nat_cmp e.0 (e ∷ es) ≡ Some e.1
find_head e es = let t = unsigned_tied e.0 e.0 in grind (arith, common_steps, t)

pub both_true : (a b : Bool) → T (a && b) → T a × T b
both_true true b h = (tt, h)
both_true false b h = absurd h

pub below-lt : (x y : ℕ) → T (is_lt (nat_cmp x y)) → x < y
below-lt x y h = elim (nat_lt x y) as (λ b. nat_lt x y ≡ b → T (is_lt (cond b Less (cond (x == y) Equal Greater))) → x < y) [
  | true ↦ λ e _. grind (arith, common_steps, e)
  | false ↦ λ e h. elim (x == y) as (λ b. T (is_lt (cond b Equal Greater)) → x < y) [ true ↦ λ h. absurd h | false ↦ λ h. absurd h ] h
] refl h

absent : (x y : ℕ) (es : List (ℕ × ℕ)) → y ≡ x → T (below_all nat_cmp x es) → find nat_cmp y es ≡ None
absent x y [] s h = refl
absent x y (e ∷ es) s h =
    let p = both_true _ _ h in
    let lt : x < e.0 = below-lt x e.0 p.0 in
    let r = absent x y es s p.1 in
    let t = unsigned_tied y e.0 in
    grind (arith, common_steps, r, t, lt, s)

pub later : (q : ℕ) (e : ℕ × ℕ) (es : List (ℕ × ℕ)) (c : ℕ) → T (below_all nat_cmp e.0 es) → find nat_cmp q es ≡ Some c → find nat_cmp q (e ∷ es) ≡ Some c
later q e es c b f =
    let apart : q ≡ e.0 → find nat_cmp q es ≡ None = λ same. absent e.0 q es same b in
    grind (arith, common_steps, apart, f, unsigned_tied q e.0)

greatest : (low limit : ℕ) (es : List (ℕ × ℕ)) → T (is_sorted nat_cmp es) → low ≤ limit → ((q c : ℕ) → find nat_cmp q es ≡ Some c → low ≤ c) → low ≤ least limit (map (λ e. e.1) es)
greatest low limit [] s l h = l
greatest low limit (e ∷ es) s l h =
    let p = both_true _ _ s in
    let here : low ≤ e.1 = h e.0 e.1 (find_head e es) in
    let rest : low ≤ least limit (map (λ e. e.1) es) = greatest low limit es p.1 l (λ q c f. h q c (later q e es c p.0 f)) in
    omega arith

pub least-greatest : (low limit : ℕ) (m : Cursors) → low ≤ limit → ((q c : ℕ) → get m q ≡ Some c → low ≤ c) → low ≤ least limit (values m)
least-greatest low limit m l h = greatest low limit (entries m) (entries_sorted m) l (λ q c e. h q c (get-entries m q ∙ e))

-- a map with a key isn't empty
found_some : (q c : ℕ) (es : List (ℕ × ℕ)) → find nat_cmp q es ≡ Some c → 1 ≤ length es
found_some q c [] h = absurd (none-some c h)
found_some q c (e ∷ es) h = omega arith

pub len_some : (m : Cursors) (q c : ℕ) → get m q ≡ Some c → 1 ≤ len m
len_some m q c h = let n = len-entries m in let f = found_some q c (entries m) (sym (get-entries m q) ∙ h) in omega (arith, n, f)

pub len_insert : (m : Cursors) (key cursor : ℕ) → 1 ≤ len (insert m key cursor)
len_insert m key cursor = len_some (insert m key cursor) key cursor (inserted m key cursor)
