-- The view after an effect, and that of the state's parts.
use Rattle.std.proofs.Common.{◌≡◌, ℕ, ◌+◌, ◌-◌, ◌≤◌, Bool, List, [], ◌∷◌, length, max, drop, Some, refl, sym, ap, ◌∙◌, arith, append-nil, length-drop, nat_cmp}
use Rattle.std.proofs.lemmas.Grind.{common_steps}
use Rattle.std.specs.FinMap.{get, insert, len, values, entries, find, len-entries, get-entries}
use Rattle.bcast_model.specs.Words.{Control, Cursors, Places, Pair, close_if_deserted}
use Rattle.bcast_model.specs.Words.{least, View}
use Rattle.bcast_model.specs.Words.{sets, settle}
pub use Rattle.bcast_model.proofs.Cases.{cursors-close, cursors-accepting}
use Rattle.bcast_model.proofs.Cases.{deserted_is}
pub use Rattle.bcast_model.proofs.Lift.{settle_to, settle_stays, settle_same}
pub use Rattle.bcast_model.proofs.DeliveryMaps.{inserted}
use Rattle.bcast_model.proofs.Least.{least-le-cursor, least-le-limit, least-greatest, find_head}
use Rattle.bcast_store.specs.Stored.{Stored, end_of, with_cursors}
use Rattle.bcast_waiting.specs.Words.{Event}
use Rattle.bcast_core.specs.Parts.{control_of, seen_of}

-- ---- cursors
-- with a cursor that is at most the front, the front stays
pub low_inserted : (end front : ℕ) (cursors : Cursors) (key cursor : ℕ) → cursor ≤ front → least end (values (insert cursors key cursor)) ≤ front
low_inserted end front cursors key cursor below = let own = least-le-cursor end (insert cursors key cursor) key cursor (inserted cursors key cursor) in omega (arith, own)

-- there is a receiver
found_first : (es : List (ℕ × ℕ)) → 1 ≤ length es → (key : ℕ) × (cursor : ℕ) × (find nat_cmp key es ≡ Some cursor)
found_first [] some = absurd (omega arith)
found_first (e ∷ es) some = (e.0, e.1, find_head e es)

pub somebody : (cursors : Cursors) → 1 ≤ len cursors → (key : ℕ) × (cursor : ℕ) × (get cursors key ≡ Some cursor)
somebody cursors some =
    let n = len-entries cursors in
    let f = found_first (entries cursors) (omega (arith, n)) in
    (f.0, f.1, get-entries cursors f.0 ∙ f.2)

-- the least cursor is the same under a greater limit
pub least_raised : (end more : ℕ) (cursors : Cursors) → 1 ≤ len cursors → ((key cursor : ℕ) → get cursors key ≡ Some cursor → cursor ≤ end) → least (end + more) (values cursors) ≤ least end (values cursors)
least_raised end more cursors some reach = grind (arith, common_steps, somebody, least-le-cursor, least-greatest)

module _ {T : Type 0} where
  -- closing doesn't change the front
  pub low_close_if_deserted : (v : View T) (c : Control) → least v.end (values c.cursors) ≤ v.front → least v.end (values (close_if_deserted c).cursors) ≤ v.front
  low_close_if_deserted v c low = deserted_is (λ x. least v.end (values x.cursors) ≤ v.front) c (rw (cursors-close c) low) (λ _. low)

  -- ---- the state's parts
  -- the messages that no receiver has to read any more are gone
  settle-with_cursors : (s : Stored T) (was c : Control) → settle (seen_of s was) (sets c) ≡ seen_of (with_cursors s c.cursors) c
  settle-with_cursors s was c =
      let end : end_of s + 0 ≡ end_of s = omega arith in
      let limit = least-le-limit (end_of s) (values c.cursors) in
      let front : max (max s.front 0) (least (end_of s + 0) (values c.cursors)) ≡ max s.front (least (end_of s) (values c.cursors)) = rw end (omega arith) in
      let size = length-drop (max s.front (least (end_of s) (values c.cursors)) - s.front) s.queue in
      let last : end_of s + 0 ≡ max s.front (least (end_of s) (values c.cursors)) + length (drop (max s.front (least (end_of s) (values c.cursors)) - s.front) s.queue) = omega (arith, limit, size) in
      settle_to (seen_of s was) (sets c) (seen_of (with_cursors s c.cursors) c) front (ap (drop (max s.front (least (end_of s) (values c.cursors)) - s.front)) (append-nil s.queue)) last refl

  -- other cursors lead to the view that their effect settles to
  pub view-with_cursors : (s now : Stored T) (places : Places) (sends : Event ℕ) (receives : Event Pair) (senders inactive : ℕ) (closed overflow await_active : Bool) (capacity : ℕ) (moves : Cursors → Cursors) (v : View T)
      → now ≡ with_cursors s (moves s.cursors)
      → seen_of s (control_of s places sends receives senders inactive closed overflow await_active capacity) ≡ v
      → seen_of now (control_of now places sends receives senders inactive closed overflow await_active capacity) ≡ settle v (sets (record v.control { cursors = moves v.control.cursors }))
  view-with_cursors s now places sends receives senders inactive closed overflow await_active capacity moves v is seen =
      let was : Control = control_of s places sends receives senders inactive closed overflow await_active capacity in
      ap (λ x. seen_of x (control_of x places sends receives senders inactive closed overflow await_active capacity)) is
      ∙ sym (settle-with_cursors s was (record was { cursors = moves s.cursors }))
      ∙ ap (λ (x : View T). settle x (sets (record x.control { cursors = moves x.control.cursors }))) seen
