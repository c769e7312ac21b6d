-- The view of a valid history, and the front by the floor, the end and the cursors.
use Rattle.std.proofs.Common.{◌≡◌, inl, inr, ℕ, ◌+◌, ◌-◌, ◌<◌, ◌≤◌, false, cond, List, [], ◌∷◌, length, drop, Some, None, nat_lt, slice_get, zero, suc, refl, sym, ap, ◌∙◌, arith, length-drop, max}
use Rattle.std.proofs.lemmas.Grind.{common_steps}
use Rattle.std.proofs.lemmas.Bool.{cases_lt}
use Rattle.std.specs.FinMap.{get, values}
use Rattle.std.proofs.lemmas.List.{nil_from_length}
use Rattle.bcast_model.specs.Words.{History, front_number, end_number, queue_of, numbered, view_of}
use Rattle.bcast_model.specs.Words.{IsValid, View, IsValidView, cursor_of}
use Rattle.bcast_model.proofs.Least.{least-le-limit, least-le-cursor}

-- ---- messages by their numbers
pub slice_get-drop : {A : Type 0} (n i : ℕ) (items : List A) → slice_get (drop n items) i ≡ slice_get items (n + i)
slice_get-drop zero i items = ap (slice_get items) (omega arith)
slice_get-drop (suc n) i [] = refl
slice_get-drop (suc n) i (item ∷ items) = slice_get-drop n i items ∙ (let e : suc n + i ≡ suc (n + i) = omega arith in ap (slice_get (item ∷ items)) (sym e))

module _ {T : Type 0} where
  pub numbered-queue : (h : History T) (number : ℕ) → h.first ≤ front_number h → front_number h ≤ number → numbered h number ≡ slice_get (queue_of h) (number - front_number h)
  numbered-queue h number low high =
      let test : nat_lt number h.first ≡ false = grind (arith, common_steps) in
      let e : (front_number h - h.first) + (number - front_number h) ≡ number - h.first = omega arith in
      ap (λ b. cond b None (slice_get h.accepted (number - h.first))) test ∙ ap (slice_get h.accepted) (sym e) ∙ sym (slice_get-drop (front_number h - h.first) (number - front_number h) h.accepted)

  -- the floor is at most the front
  pub floor_under : (h : History T) → h.floor ≤ front_number h
  floor_under h = omega arith

  pub first_under : (h : History T) → h.first ≤ h.floor → h.first ≤ front_number h
  first_under h low = omega arith

  pub valid_view : (h : History T) → IsValid h → IsValidView (view_of h)
  valid_view h valid =
      let limit = least-le-limit (end_number h) (values h.control.cursors) in
      let low = first_under h valid.floor_low in
      let high : front_number h ≤ end_number h = omega (arith, valid.floor_high) in
      let size = length-drop (front_number h - h.first) h.accepted in
      record {
        low = omega arith;
        high = high;
        end = omega (arith, size, low, high);
        reach = λ key cursor e. (valid.cursors key cursor e).1;
        caught_up = λ key cursor none e.
            let n = ap length none in
            let m = least-le-cursor (end_number h) h.control.cursors key cursor e in
            let r = valid.cursors key cursor e in
            elim valid.floor_below [ inl f ↦ omega (arith, size, n, m, r.0, r.1, f, valid.floor_low, valid.floor_high) | inr f ↦ omega (arith, size, n, m, r.0, r.1, f, valid.floor_low) ];
        fits = valid.fits;
        control = valid.control;
        wake_ups = valid.wake_ups;
      }

  -- a receiver that lags finds a message
  pub lagging : (v : View T) → IsValidView v → (key cursor : ℕ) → get v.control.cursors key ≡ Some cursor → cursor < v.front → v.front < v.end
  lagging v valid key cursor e lags = elim (cases_lt v.front v.end) [
    | inl some ↦ some
    | inr none ↦ (let caught = valid.caught_up key cursor (nil_from_length v.queue (omega (arith, valid.end))) e in absurd (omega arith))
  ]

-- the bounds that each call keeps
pub record IsBounded {T : Type 0} (h : History T) : Type 0 where
  pub floor_low : h.first ≤ h.floor
  pub floor_high : h.floor ≤ end_number h
  pub cursors : (key cursor : ℕ) → cursor_of h.control key ≡ Some cursor → (h.first ≤ cursor) × (cursor ≤ end_number h)
  pub capacity : 1 ≤ h.control.capacity

module _ {T : Type 0} where
  pub bounded_valid : (h : History T) → IsValid h → IsBounded h
  bounded_valid h valid = record { floor_low = valid.floor_low; floor_high = valid.floor_high; cursors = valid.cursors; capacity = valid.control.capacity }

  pub front-le-cursor : (h : History T) (key cursor : ℕ) → cursor_of h.control key ≡ Some cursor → front_number h ≤ max h.floor cursor
  front-le-cursor h key cursor is = let low = least-le-cursor (end_number h) h.control.cursors key cursor is in omega arith

  pub front-le-end : (h : History T) → IsBounded h → front_number h ≤ end_number h
  front-le-end h bounded = let limit = least-le-limit (end_number h) (values h.control.cursors) in omega (arith, bounded.floor_high)

  -- the kept messages are those from the front to the end
  pub length-queue : (h : History T) → IsBounded h → front_number h + length (queue_of h) ≡ end_number h
  length-queue h bounded =
      let high = front-le-end h bounded in
      let size = length-drop (front_number h - h.first) h.accepted in
      omega (arith, high, size, bounded.floor_low)
