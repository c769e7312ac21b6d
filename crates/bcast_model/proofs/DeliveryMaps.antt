-- Maps of cursors, and how one may differ after a call.
use Rattle.std.proofs.Common.{◌≡◌, ◌≢◌, ◌⊎◌, inl, inr, ℕ, ◌≤◌, Bool, true, false, cond, Some, None, refl, sym, ap, ◌∙◌, subst, arith}
use Rattle.std.proofs.lemmas.Bool.{false≢true}
use Rattle.std.proofs.lemmas.Grind.{common_steps}
use Rattle.std.proofs.lemmas.Option.{none-some, same_Some}
use Rattle.std.specs.Cmp.{nat_cmp_total, unsigned_tied}
use Rattle.std.specs.Ordering.{nat_cmp, eq_by_cmp}
use Rattle.std.specs.FinMap.{get, insert, remove, get-insert, get-remove}
use Rattle.bcast_model.specs.Words.{Pair, Control, Cursors, listens}

-- ---- a map of cursors, at one key
pub got_insert : (m : Cursors) (key cursor other c : ℕ) → get (insert m key cursor) other ≡ Some c → ((other ≡ key) × (c ≡ cursor)) ⊎ (get m other ≡ Some c)
got_insert m key cursor other c is =
    let there = get-insert nat_cmp_total m key cursor other in
    let tied = unsigned_tied other key in
    elim (eq_by_cmp nat_cmp other key) as (λ b. eq_by_cmp nat_cmp other key ≡ b → get (insert m key cursor) other ≡ cond b (Some cursor) (get m other) → ((other ≡ key) × (c ≡ cursor)) ⊎ (get m other ≡ Some c)) [
      | true ↦ λ t e. inl (grind (arith, common_steps, t, tied), same_Some c cursor (sym is ∙ e))
      | false ↦ λ t e. inr (sym e ∙ is)
    ] refl there

pub inserted : (m : Cursors) (key cursor : ℕ) → get (insert m key cursor) key ≡ Some cursor
inserted m key cursor = let tied = unsigned_tied key key in let e = get-insert nat_cmp_total m key cursor key in grind (arith, common_steps, tied, e)

pub inserted_other : (m : Cursors) (key cursor other : ℕ) → other ≢ key → get (insert m key cursor) other ≡ get m other
inserted_other m key cursor other differs = let tied = unsigned_tied other key in let e = get-insert nat_cmp_total m key cursor other in grind (arith, common_steps, tied, e, differs)

pub removed_same : (m : Cursors) (key other : ℕ) → other ≡ key → get (remove m key) other ≡ None
removed_same m key other same = let tied = unsigned_tied other key in let e = get-remove nat_cmp_total m key other in grind (arith, common_steps, tied, e, same)

pub removed_other : (m : Cursors) (key other : ℕ) → other ≢ key → get (remove m key) other ≡ get m other
removed_other m key other differs = let tied = unsigned_tied other key in let e = get-remove nat_cmp_total m key other in grind (arith, common_steps, tied, e, differs)

pub got_remove : (m : Cursors) (key other : ℕ) → (get (remove m key) other ≡ get m other) ⊎ (get (remove m key) other ≡ None)
got_remove m key other =
    let there = get-remove nat_cmp_total m key other in
    elim (eq_by_cmp nat_cmp other key) as (λ b. get (remove m key) other ≡ cond b None (get m other) → (get (remove m key) other ≡ get m other) ⊎ (get (remove m key) other ≡ None)) [
      | true ↦ λ e. inr e
      | false ↦ λ e. inl e
    ] there

-- ---- what doesn't change the cursors
pub cursors-listens : (c : Control) (pair : Pair) (waits : Bool) → (listens c pair waits).cursors ≡ c.cursors
cursors-listens c pair true = refl
cursors-listens c pair false = refl

-- ---- how a call may change it
-- of a channel with this front and this end: the cursors stay, that of the call's receiver rises,
-- one is made at the end or at another one, or one is gone that leaves by the call. The key of one
-- that is made is free if the reply is legal
pub data CursorsChange (front end : ℕ) (receives : ℕ → Bool) (Leaves : ℕ → Type 0) (Legal : Type 0) (old new : Cursors) : Type 0 where
  stay : new ≡ old → CursorsChange front end receives Leaves Legal old new
  rise : (key from to : ℕ) → receives key ≡ true → get old key ≡ Some from → from ≤ to → (to ≤ front) ⊎ (to ≤ end) → new ≡ insert old key to → CursorsChange front end receives Leaves Legal old new
  make : (key at : ℕ) → (Legal → get old key ≡ None) → (at ≡ end) ⊎ ((other : ℕ) × (get old other ≡ Some at)) → new ≡ insert old key at → CursorsChange front end receives Leaves Legal old new
  leave : (key : ℕ) → Leaves key → new ≡ remove old key → CursorsChange front end receives Leaves Legal old new

-- ---- what follows at one receiver
-- a receiver that the call doesn't receive for keeps its cursor, or leaves
pub stands_or_left : (front end : ℕ) (receives : ℕ → Bool) {Leaves : ℕ → Type 0} {Legal : Type 0} (old new : Cursors) (key cursor : ℕ) → CursorsChange front end receives Leaves Legal old new → Legal → receives key ≡ false → get old key ≡ Some cursor → (get new key ≡ Some cursor) ⊎ (get new key ≡ None)
stands_or_left front end receives old new key cursor (stay same) legal reads is = inl (ap (λ m. get m key) same ∙ is)
stands_or_left front end receives old new key cursor (rise other from to read found le high same) legal reads is =
    inl (ap (λ m. get m key) same ∙ inserted_other old other to key (λ e. false≢true (sym reads ∙ ap receives e ∙ read)) ∙ is)
stands_or_left front end receives old new key cursor (make made at free source same) legal reads is =
    inl (ap (λ m. get m key) same ∙ inserted_other old made at key (λ e. none-some cursor (sym (free legal) ∙ ap (get old) (sym e) ∙ is)) ∙ is)
stands_or_left front end receives old new key cursor (leave other leaves same) legal reads is =
    elim (got_remove old other key) [ inl e ↦ inl (ap (λ m. get m key) same ∙ e ∙ is) | inr e ↦ inr (ap (λ m. get m key) same ∙ e) ]

-- a cursor after a call is at the end, or one was there or before it already
pub record StoodBefore (front end : ℕ) (old : Cursors) (cursor : ℕ) : Type 0 where
  pub key : ℕ
  pub before : ℕ
  pub found : get old key ≡ Some before
  pub low : before ≤ cursor
  pub high : (cursor ≤ before) ⊎ ((cursor ≤ front) ⊎ (cursor ≤ end))

stood : (front end : ℕ) (old : Cursors) (key cursor : ℕ) → get old key ≡ Some cursor → StoodBefore front end old cursor
stood front end old key cursor is = record { key = key; before = cursor; found = is; low = omega arith; high = inl (omega arith) }

pub came_from : (front end : ℕ) (receives : ℕ → Bool) {Leaves : ℕ → Type 0} {Legal : Type 0} (old new : Cursors) (key cursor : ℕ) → CursorsChange front end receives Leaves Legal old new → get new key ≡ Some cursor → (cursor ≡ end) ⊎ StoodBefore front end old cursor
came_from front end receives old new key cursor (stay same) is = inr (stood front end old key cursor (ap (λ m. get m key) (sym same) ∙ is))
came_from front end receives old new key cursor (rise other from to reads found le high same) is =
    inr (elim (got_insert old other to key cursor (ap (λ m. get m key) (sym same) ∙ is)) [
      | inl e ↦ subst (StoodBefore front end old) (sym e.1) (record { key = other; before = from; found = found; low = le; high = inr high })
      | inr e ↦ stood front end old key cursor e
    ])
came_from front end receives old new key cursor (make made at free source same) is =
    elim (got_insert old made at key cursor (ap (λ m. get m key) (sym same) ∙ is)) [
      | inl e ↦ elim source [ inl last ↦ inl (e.1 ∙ last) | inr other ↦ inr (stood front end old other.0 cursor (other.1 ∙ ap Some (sym e.1))) ]
      | inr e ↦ inr (stood front end old key cursor e)
    ]
came_from front end receives old new key cursor (leave other leaves same) is =
    elim (got_remove old other key) [
      | inl e ↦ inr (stood front end old key cursor (sym e ∙ ap (λ m. get m key) (sym same) ∙ is))
      | inr e ↦ absurd (none-some cursor (sym e ∙ ap (λ m. get m key) (sym same) ∙ is))
    ]
