-- The counts stay right when a receiver skips or reads, and what a read gives.
use Rattle.std.proofs.Common.{◌≡◌, ℕ, ◌+◌, ◌-◌, ◌<◌, ◌≤◌, true, false, cond, eqb, length, max, Some, get_or, set, slice_get, nat_le, refl, sym, subst, ap, ◌∙◌, arith, rules, eqb-true}
use Rattle.std.specs.Prelude.{IsSomeAnd}
use Rattle.std.proofs.lemmas.Grind.{common_steps}
use Rattle.std.proofs.lemmas.Bool.{cases_lt}
use Rattle.std.proofs.lemmas.List.{get_or-set_same, get_or-set_other}
use Rattle.std.specs.FinMap.{get, insert, remove}
use Rattle.bcast_model.specs.Control.{Cursors}
use Rattle.bcast_queue.specs.Queue.{Queued, one_fewer_from, passed, without, read_at}
use Rattle.bcast_queue.proofs.Reading.{passed_one}
use Rattle.bcast_queue.proofs.Pointwise.{length-one_fewer_from, get_or-one_more_from, get_or-one_fewer_from}
use Rattle.bcast_store.specs.Stored.{Stored, IsHandedOut, IsOwed, end_of, with_cursors}
use Rattle.bcast_store.specs.Sound.{IsSound, store_of, owing_at}
use Rattle.bcast_store.proofs.Owing.{owing-rises, owing-moved, owing-left, another, reached, found}
use Rattle.bcast_store.proofs.Counted.{IsCounted, owed_at, sound_without, with_cursors-queue}

-- the receiver reads this number, at this index: that of its cursor, or the oldest if it lags
pub record IsReading {T : Type 0} (q : Queued T) (cursors : Cursors) (key number i : ℕ) : Type 0 where
  pub cursor : ℕ
  pub at : get cursors key ≡ Some cursor
  pub is : number ≡ q.front + i
  pub below : i < length q.messages
  pub under : cursor ≤ number
  pub meets : 0 < i → cursor ≡ number

module _ {T : Type 0} where
  pub is_reading : (q : Queued T) (cursors : Cursors) (s : Stored T) (key number front : ℕ) → store_of q cursors ≡ s → front ≡ q.front → IsSomeAnd (get s.cursors key) (λ cursor. number ≡ max cursor s.front) → number < end_of s → IsReading q cursors key number (number - front)
  is_reading q cursors s key number front view front_is at below = grind (arith, common_steps, found)

  -- a receiver moves past so many messages
  pub sound_passed : (q : Queued T) (cursors : Cursors) (key cursor number i n : ℕ) → IsSound q cursors → IsCounted q → get cursors key ≡ Some cursor → number ≡ q.front + i → cursor ≤ number → (0 < i → cursor ≡ number) → i + n ≤ length q.messages
      → IsSound (passed i n q) (insert cursors key (number + n))
  sound_passed q cursors key cursor number i n s counted at is under meets within =
      record {
        owed_by = λ j h.
            let a = owing-moved cursors key cursor (number + n) (q.front + j) at in
            let b = s.owed_by j h in
            let fewer = get_or-one_fewer_from i q.owed j (omega (arith, counted.lengths)) (λ _. owed_at q j counted h) in
            let more = get_or-one_more_from (i + n) (one_fewer_from i q.owed) j (omega (arith, counted.lengths, length-one_fewer_from i q.owed)) in
            let t : ◌≡◌ {A = ℕ} (cond (nat_le cursor (q.front + j)) 1 0) (cond (nat_le i j) 1 0) = grind (arith, common_steps, is, under, meets) in
            let u : ◌≡◌ {A = ℕ} (cond (nat_le (number + n) (q.front + j)) 1 0) (cond (nat_le (i + n) j) 1 0) = grind (arith, common_steps, is) in
            omega (arith, a, b, fewer, more, t, u);
        reach = λ other c e. reached (q.front + length q.messages) cursors key (number + n) other c s.reach (omega (arith, is, within)) e;
      }

  -- a skip to the front
  pub sound_skip : (q : Queued T) (cursors : Cursors) (key cursor : ℕ) → IsSound q cursors → get cursors key ≡ Some cursor → cursor < q.front → IsSound q (insert cursors key q.front)
  sound_skip q cursors key cursor s at lags =
      record {
        owed_by = λ i h. let a = owing-moved cursors key cursor q.front (q.front + i) at in let b = s.owed_by i h in grind (arith, common_steps, a, b, lags);
        reach = λ other c e. reached (q.front + length q.messages) cursors key q.front other c s.reach (omega arith) e;
      }

  -- the message at a cursor is owed by more than the one before it
  pub steps_up : (q : Queued T) (cursors : Cursors) (key cursor i : ℕ) → IsSound q cursors → get cursors key ≡ Some cursor → cursor ≡ q.front + i → i < length q.messages → 0 < i → get_or q.owed (i - 1) 0 < get_or q.owed i 0
  steps_up q cursors key cursor i s at is below some =
      let here = s.owed_by i below in
      let before = s.owed_by (i - 1) (omega arith) in
      let a = owing-left cursors key cursor (q.front + i) at in
      let b = owing-left cursors key cursor (q.front + (i - 1)) at in
      let r = owing-rises (remove cursors key) (q.front + (i - 1)) (q.front + i) (omega arith) in
      let x : nat_le cursor (q.front + i) ≡ true = grind (arith, common_steps, is) in
      let y : nat_le cursor (q.front + (i - 1)) ≡ false = grind (arith, common_steps, is, some) in
      let u : owing_at (remove cursors key) (q.front + i) + 1 ≡ owing_at cursors (q.front + i) = rw x at a in
      let v : owing_at (remove cursors key) (q.front + (i - 1)) + 0 ≡ owing_at cursors (q.front + (i - 1)) = rw y at b in
      omega (arith, here, before, u, v, r)

  module _ (q : Queued T) (cursors : Cursors) (key number i : ℕ) (s : IsSound q cursors) (r : IsReading q cursors key number i) where
    pub reading_up : 0 < i → get_or q.owed (i - 1) 0 < get_or q.owed i 0
    reading_up some = let m = r.meets some in steps_up q cursors key r.cursor i s r.at (omega (arith, m, r.is)) r.below some

    -- a message that is owed once is the oldest
    owed_once : IsCounted q → get_or q.owed i 0 ≡ 1 → i ≡ 0
    owed_once n once = grind (arith, common_steps, cases_lt, reading_up, owed_at)

    -- each count but that of the message stays
    one_passed : IsCounted q → IsSound (record q { owed = set q.owed i (get_or q.owed i 0 - 1) }) (insert cursors key (number + 1))
    one_passed n = subst (λ p. IsSound p (insert cursors key (number + 1))) (passed_one q i n.owed) (sound_passed q cursors key r.cursor number i 1 s n r.at r.is r.under r.meets (omega (arith, r.below)))

    here : IsCounted q → owing_at (insert cursors key (number + 1)) (q.front + i) + 1 ≡ get_or q.owed i 0
    here n = omega (arith, (one_passed n).owed_by i r.below, get_or-set_same q.owed i (get_or q.owed i 0 - 1) 0 (omega (arith, n.lengths, r.below)), owed_at q i n r.below)

    -- the last reader of the oldest message moves with the front
    sound_last : IsCounted q → i ≡ 0 → IsSound (without 1 q) (insert cursors key (number + 1))
    sound_last n oldest =
        let after = one_passed n in
        sound_without q (insert cursors key (number + 1)) 1 (omega (arith, r.below))
        (λ j from h. sym (get_or-set_other q.owed i j (get_or q.owed i 0 - 1) 0 (λ same. omega arith)) ∙ after.owed_by j h) after.reach

    pub sound_read : IsCounted q → IsSound (read_at i q) (insert cursors key (number + 1))
    sound_read n = grind (arith, common_steps, sound_last, owed_once, eqb-true, one_passed)

    -- the store after a read
    pub store_read : IsCounted q → IsCounted (read_at i q) → store_of (read_at i q) (insert cursors key (number + 1)) ≡ with_cursors (store_of q cursors) (insert cursors key (number + 1))
    store_read n after =
        elim (eqb (get_or q.owed i 0) 1) as (λ b. eqb (get_or q.owed i 0) 1 ≡ b → let new = cond b (without 1 q) (record q { owed = set q.owed i (get_or q.owed i 0 - 1) }) in
        IsSound new (insert cursors key (number + 1)) → IsCounted new → store_of new (insert cursors key (number + 1)) ≡ with_cursors (store_of q cursors) (insert cursors key (number + 1))) [
          | true ↦ λ t sound counted.
              let once = eqb-true _ 1 t in
              let oldest = owed_once n once in
              let e : q.front + (1 - 1) ≡ q.front + i = omega arith in
              let none : owing_at (insert cursors key (number + 1)) (q.front + i) ≡ 0 = omega (arith, here n, once) in
              with_cursors-queue q (without 1 q) cursors (insert cursors key (number + 1)) 1 refl refl refl (omega (arith, r.below)) sound counted (λ _. ap (owing_at (insert cursors key (number + 1))) e ∙ none)
          | false ↦ λ t sound counted.
              with_cursors-queue q (record q { owed = set q.owed i (get_or q.owed i 0 - 1) }) cursors (insert cursors key (number + 1)) 0 (omega arith) refl refl (omega arith) sound counted (λ h. absurd (omega arith))
        ] refl (sound_read n) after

    -- ---- what it gives
    -- a message that is owed more than once is owed by another receiver
    pub owed_by_another : 1 < get_or q.owed i 0 → IsOwed (store_of q cursors) key number
    owed_by_another more = search (rules, another)

    pub handed_out : (is_clone : T → T → Type 0) (given : T) → IsCounted q → (get_or q.owed i 0 ≡ 1 → slice_get q.messages i ≡ Some given) → (1 < get_or q.owed i 0 → IsSomeAnd (slice_get q.messages i) (λ msg. is_clone msg given))
        → IsHandedOut is_clone (store_of q cursors) key number given
    handed_out is_clone given n moved cloned = grind (arith, common_steps, cases_lt, owed_by_another, owed_at)
