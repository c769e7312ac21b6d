-- What a call drops, and that all that its receivers have missed after it is gone.
use Rattle.std.proofs.Common.{◌≡◌, ◌⊎◌, inl, inr, ℕ, ◌+◌, ◌<◌, ◌≤◌, List, Some, sym, ap, ◌∙◌, arith, length-append}
use Rattle.std.specs.List.{Contains, range_with_len}
use Rattle.std.specs.FinMap.{get}
use Rattle.std.proofs.lemmas.Bool.{cases_lt}
use Rattle.bcast_model.specs.Words.{Call, Reply, History, view_of, front_number, end_number}
use Rattle.bcast_model.specs.Words.{cursor_of, Legal, effect, HasPositiveCapacity, next}
use Rattle.bcast_model.specs.Words.{receives_for, dropped_by}
use Rattle.bcast_model.proofs.Views.{floor_under, IsBounded, front-le-end, front-le-cursor}
use Rattle.bcast_model.proofs.Answers.{cursors-next}
use Rattle.bcast_model.proofs.DeliveryMaps.{StoodBefore, came_from}
use Rattle.bcast_model.proofs.DeliveryCursors.{changes, capacity-next}
use Rattle.bcast_model.proofs.DroppedByCalls.{FloorChange, stays, passes, floor-effect}
use Rattle.bcast_model.proofs.RisingNumbers.{contains_range, IsRising, rising_range, rising_wider, within_rising}

module _ {T : Type 0} where
  -- what a call drops: rising numbers from the front up to the floor after it, all that it passes
  pub record Drops (h now : History T) (dropped : List ℕ) : Type 0 where
    pub rises : h.floor ≤ now.floor
    pub rising : IsRising h.floor now.floor dropped
    pub each : (n : ℕ) → h.floor ≤ n → n < now.floor → front_number h ≤ n → Contains dropped n
    pub receivers : (now.floor ≡ h.floor) ⊎ (now.control.cursors ≡ h.control.cursors)
    pub within : now.floor ≤ end_number now

  drops_change : (h : History T) (c : Call T) (r : Reply T) (dropped : List ℕ) → IsBounded h → FloorChange h (effect (view_of h) c r) dropped → Drops h (next h c r) dropped
  drops_change h c r dropped bounded (stays floor none) =
      let size = length-append h.accepted (effect (view_of h) c r).accepted in
      let high = bounded.floor_high in
      record {
        rises = omega arith;
        rising = rw none tt;
        each = λ n low above from. absurd (omega (arith, floor, low, above));
        receivers = inl (omega (arith, floor));
        within = omega (arith, floor, size, high);
      }
  drops_change h c r dropped bounded (passes count cursors floor within is) =
      let size = length-append h.accepted (effect (view_of h) c r).accepted in
      let low = floor_under h in
      let top : (next h c r).floor ≡ front_number h + count = omega (arith, floor, low) in
      record {
        rises = omega arith;
        rising = rw (is, top) (rising_wider (front_number h) (front_number h + count) h.floor (front_number h + count) (range_with_len (front_number h) count) low (omega arith) (rising_range (front_number h) count (front_number h + count) (omega arith)));
        each = λ n under above from. rw is (contains_range (front_number h) count n from (omega (arith, top, above)));
        receivers = inr (cursors-next h c r ∙ cursors);
        within = omega (arith, top, size, within);
      }

  pub drops_next : (is_clone : T → T → Type 0) (h : History T) (c : Call T) (r : Reply T) → IsBounded h → Legal is_clone (view_of h) c r → Drops h (next h c r) (dropped_by h c r)
  drops_next is_clone h c r bounded legal = drops_change h c r (dropped_by h c r) bounded (floor-effect is_clone h c r bounded legal)

  -- where the receivers of the next state stood before
  pub stood_before : (is_clone : T → T → Type 0) (h : History T) (c : Call T) (r : Reply T) (key cursor : ℕ) → IsBounded h → Legal is_clone (view_of h) c r → cursor_of (next h c r).control key ≡ Some cursor
      → (cursor ≤ end_number h) × ((cursor ≡ end_number h) ⊎ StoodBefore (front_number h) (end_number h) h.control.cursors cursor)
  stood_before is_clone h c r key cursor bounded legal is =
      elim (came_from (front_number h) (end_number h) (λ key. receives_for key c) h.control.cursors (effect (view_of h) c r).control.cursors key cursor (changes is_clone (view_of h) c r).cursors (ap (λ m. get m key) (sym (cursors-next h c r)) ∙ is)) [
        | inl e ↦ (omega (arith, e), inl e)
        | inr stood ↦ (let before = (bounded.cursors stood.key stood.before stood.found).1 in
            let front = front-le-end h bounded in
            let high : cursor ≤ end_number h = elim stood.high [ inl e ↦ omega (arith, e, before) | inr e ↦ elim e [ inl f ↦ omega (arith, f, front) | inr f ↦ f ] ] in
            (high, inr stood))
      ]

  pub bounded-next : (is_clone : T → T → Type 0) (h : History T) (c : Call T) (r : Reply T) → HasPositiveCapacity c → IsBounded h → Legal is_clone (view_of h) c r → IsBounded (next h c r)
  bounded-next is_clone h c r allowed bounded legal =
      let drops = drops_next is_clone h c r bounded legal in
      let size = length-append h.accepted (effect (view_of h) c r).accepted in
      let rises = drops.rises in
      let low = bounded.floor_low in
      record {
        floor_low = omega (arith, rises, low);
        floor_high = drops.within;
        cursors = λ key cursor is.
            let stood = stood_before is_clone h c r key cursor bounded legal is in
            let high : cursor ≤ end_number (next h c r) = (let k = stood.0 in omega (arith, k, size)) in
            elim stood.1 [
              | inl e ↦ (omega (arith, e), high)
              | inr s ↦ (let before = (bounded.cursors s.key s.before s.found).0 in let above = s.low in (omega (arith, before, above), high))
            ];
        capacity = capacity-next h c r allowed bounded.capacity;
      }

-- what is gone: all that a receiver has missed, and nothing from the floor on
pub record AreGone {T : Type 0} (Gone : ℕ → Type 0) (h : History T) : Type 0 where
  pub bounded : IsBounded h
  pub missed : (n key cursor : ℕ) → cursor_of h.control key ≡ Some cursor → cursor ≤ n → n < h.floor → Gone n
  pub under : (n : ℕ) → Gone n → n < h.floor

module _ {T : Type 0} (is_clone : T → T → Type 0) where
  -- after a call, what it dropped is gone too
  pub gone_next : (Gone : ℕ → Type 0) (h : History T) (c : Call T) (r : Reply T) → AreGone Gone h → HasPositiveCapacity c → Legal is_clone (view_of h) c r → AreGone (λ n. Gone n ⊎ Contains (dropped_by h c r) n) (next h c r)
  gone_next Gone h c r gone allowed legal =
      let bounded = gone.bounded in
      let drops = drops_next is_clone h c r bounded legal in
      let rises = drops.rises in
      let high = bounded.floor_high in
      record {
        bounded = bounded-next is_clone h c r allowed bounded legal;
        missed = λ n key cursor is low under. elim drops.receivers [
          | inl same ↦ (let stood = stood_before is_clone h c r key cursor bounded legal is in
              elim stood.1 [
                | inl at ↦ absurd (omega (arith, at, low, under, same, high))
                | inr s ↦ (let before = s.low in inl (gone.missed n s.key s.before s.found (omega (arith, before, low)) (omega (arith, under, same))))
              ])
          | inr same ↦ (let stands : cursor_of h.control key ≡ Some cursor = ap (λ m. get m key) (sym same) ∙ is in
              let front = front-le-cursor h key cursor stands in
              elim (cases_lt n h.floor) [
                | inl below ↦ inl (gone.missed n key cursor stands low below)
                | inr above ↦ inr (drops.each n above under (omega (arith, front, above, low)))
              ])
        ];
        under = λ n there. elim there [
          | inl before ↦ (let below = gone.under n before in omega (arith, below, rises))
          | inr now ↦ (within_rising h.floor (next h c r).floor n (dropped_by h c r) drops.rising now).1
        ];
      }
