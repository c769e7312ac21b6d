-- There is room for each receiver's listeners and each pending send, while they come and go.
use Rattle.std.proofs.Common.{◌≡◌, ℕ, ◌+◌, ◌*◌, ◌<◌, ◌≤◌, true, false, None, is_some, Result, Ok, Err, OnOk, OnErr, sym, ap, ◌∙◌, subst, arith, true≢false, cond, Some, refl, not, ◌&&◌, ◌||◌}
use Rattle.std.proofs.lemmas.Grind.{common_steps}
use Rattle.std.specs.Ordering.{nat_cmp, eq_by_cmp}
use Rattle.std.specs.Cmp.{nat_cmp_total, unsigned_tied}
use Rattle.std.specs.FinMap.{nat_cmp-IsAntisymmetric, get, insert, remove, empty, values, get-empty, get-insert, get-remove}
use Rattle.std.specs.FinSet as set
use Rattle.bcast_model.specs.Words.{Cursors, Places, least}
use Rattle.bcast_model.proofs.Waiting.{test_place}
use Rattle.bcast_store.specs.Stored.{Stored, end_of, with_cursors}
use Rattle.bcast_store.proofs.Least.{cursors_ext}
use Rattle.bcast_core.specs.Parts.{AllHaveRoom, ReceiversHaveRoom}

same_key : (q key : ℕ) → eq_by_cmp nat_cmp q key ≡ true → q ≡ key
same_key q key e = test_place.no q key (sym (unsigned_tied q key) ∙ e)

-- without receivers no room is needed
pub room_empty : (room : ℕ) → ReceiversHaveRoom empty room
room_empty room key h = absurd (true≢false (sym h ∙ ap is_some (get-empty nat_cmp key)))

pub room_raised : (cursors : Cursors) (room more : ℕ) → room ≤ more → ReceiversHaveRoom cursors room → ReceiversHaveRoom cursors more
room_raised cursors room more rises all key h = let own = all key h in omega (arith, own, rises)

-- a receiver for which there is room is added, or has another cursor
pub room_inserted : (cursors : Cursors) (key cursor room : ℕ) → 2 * key + 1 < room → ReceiversHaveRoom cursors room → ReceiversHaveRoom (insert cursors key cursor) room
room_inserted cursors key cursor room own all other h = grind (arith, common_steps, get-insert, same_key)

module _ {places : Places} {sends : ℕ} where
  -- a receiver has another cursor
  pub room_moved : (cursors now : Cursors) (key cursor room : ℕ) → is_some (get cursors key) ≡ true → now ≡ insert cursors key cursor → AllHaveRoom cursors room places sends → AllHaveRoom now room places sends
  room_moved cursors now key cursor room some is all =
      subst (λ m. AllHaveRoom m room places sends) (sym is) (record { receivers = room_inserted cursors key cursor room (all.receivers key some) all.receivers; sends = all.sends })

  -- a read keeps all receivers, whether it was refused or not
  pub room_read : {T E : Type 0} (r : Result T E) (old new : Stored T) (key cursor room : ℕ) → is_some (get old.cursors key) ≡ true
      → OnOk r (new ≡ with_cursors old (insert old.cursors key cursor)) → OnErr r (new ≡ old) → AllHaveRoom old.cursors room places sends → AllHaveRoom new.cursors room places sends
  room_read {T = T} (Ok msg) old new key cursor room some ok err all = room_moved old.cursors new.cursors key cursor room some (ap (λ (s : Stored T). s.cursors) ok) all
  room_read {T = T} (Err e) old new key cursor room some ok err all = subst (λ (s : Stored T). AllHaveRoom s.cursors room places sends) (sym err) all

  -- a receiver leaves
  pub room_removed : (cursors now : Cursors) (key room : ℕ) → now ≡ remove cursors key → AllHaveRoom cursors room places sends → AllHaveRoom now room places sends
  room_removed cursors now key room is all =
      subst (λ m. AllHaveRoom m room places sends) (sym is) (record { receivers = λ other h. (let was = all.receivers other in grind (arith, common_steps, get-remove)); sends = all.sends })

-- a receiver that was added and removed at once
pub remove-insert : (cursors : Cursors) (key cursor : ℕ) → get cursors key ≡ None → remove (insert cursors key cursor) key ≡ cursors
remove-insert cursors key cursor fresh =
    cursors_ext _ _ (λ q.
    get-remove nat_cmp_total (insert cursors key cursor) key q
    ∙ ap (λ o. cond (eq_by_cmp nat_cmp q key) None o) (get-insert nat_cmp_total cursors key cursor q)
    ∙ elim (eq_by_cmp nat_cmp q key) as (λ b. eq_by_cmp nat_cmp q key ≡ b → cond b None (cond b (Some cursor) (get cursors q)) ≡ get cursors q) [
      | true ↦ λ e. sym (ap (get cursors) (same_key q key e) ∙ fresh)
      | false ↦ λ e. refl
    ] refl)

-- so it doesn't change a store
pub taken_back : {T : Type 0} (s : Stored T) (key cursor : ℕ) → get s.cursors key ≡ None → least (end_of s) (values s.cursors) ≤ s.front
    → with_cursors s (remove (insert s.cursors key cursor) key) ≡ s
taken_back s key cursor fresh low = let own : with_cursors s s.cursors ≡ s = grind (arith, common_steps, low) in ap (with_cursors s) (remove-insert s.cursors key cursor fresh) ∙ own

-- ---- pending sends
-- without places no room is needed
pub below_none : (places : Places) (room : ℕ) → places ≡ set.empty → (place : ℕ) → set.contains places place ≡ true → place < room
below_none places room none place h = absurd (true≢false (sym h ∙ ap (λ (s : Places). set.contains s place) none ∙ set.contains-empty nat_cmp place))

-- a place that was taken and given back at once doesn't change the places
pub place_taken_back : (places : Places) (place : ℕ) → set.contains places place ≡ false → set.remove (set.insert places place) place ≡ places
place_taken_back places place fresh =
    set.same_set nat_cmp_total nat_cmp-IsAntisymmetric _ _ (λ q.
    set.contains-remove nat_cmp_total (set.insert places place) place q
    ∙ ap (λ b. not (eq_by_cmp nat_cmp q place) && b) (set.contains-insert nat_cmp_total places place q)
    ∙ elim (eq_by_cmp nat_cmp q place) as (λ b. eq_by_cmp nat_cmp q place ≡ b → (not b && (b || set.contains places q)) ≡ set.contains places q) [
      | true ↦ λ e. sym (ap (set.contains places) (same_key q place e) ∙ fresh)
      | false ↦ λ e. refl
    ] refl)

module _ {cursors : Cursors} {receives : ℕ} where
  -- the places stay, and the room doesn't fall
  pub places_kept : (places now : Places) (room more : ℕ) → now ≡ places → room ≤ more → AllHaveRoom cursors receives places room → AllHaveRoom cursors receives now more
  places_kept places now room more same rises all =
      record { receivers = all.receivers; sends = λ place h. (let own = all.sends place (ap (λ (s : Places). set.contains s place) (sym same) ∙ h) in omega (arith, own, rises)) }

  -- a place for which there is room is taken
  pub place_taken : (places now : Places) (place room more : ℕ) → now ≡ set.insert places place → place < more → room ≤ more → AllHaveRoom cursors receives places room → AllHaveRoom cursors receives now more
  place_taken places now place room more is own rises all =
      record { receivers = all.receivers; sends = λ other h. (let was = all.sends other in grind (arith, common_steps, set.contains-insert, same_key)) }

  -- a place is given back, and the room stays
  pub place_freed : (places now : Places) (place room next : ℕ) → now ≡ set.remove places place → next ≡ room → AllHaveRoom cursors receives places room → AllHaveRoom cursors receives now next
  place_freed places now place room next is room_is all =
      record { receivers = all.receivers; sends = λ other h. (let was = all.sends other in grind (arith, common_steps, set.contains-remove)) }
