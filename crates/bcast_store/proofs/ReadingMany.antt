-- What a receiver is given by several reads in a row, and that the counts stay right.
use Rattle.std.proofs.Common.{◌≡◌, inl, inr, ℕ, ◌+◌, ◌-◌, ◌<◌, ◌≤◌, cond, nat_le, length, List, ◌++◌, take, drop, Some, get_or, slice_get, refl, sym, ap, ◌∙◌, subst, arith, length-drop, length-take, length-append, append_assoc}
use Rattle.std.specs.Prelude.{IsSomeAnd}
use Rattle.std.specs.List.{AppendsClones}
use Rattle.std.specs.List.Sorted.{IsNonDecreasing}
use Rattle.std.specs.Option.{MatchOption}
use Rattle.std.proofs.lemmas.Grind.{common_steps}
use Rattle.std.proofs.lemmas.List.{get_or-drop, take-append-drop, drop-drop}
use Rattle.std.proofs.lemmas.Option.{slice_get_within}
use Rattle.std.proofs.lemmas.Slice.Zip.{AllZip-right, AllZip-long}
use Rattle.std.specs.FinMap.{get, insert}
use Rattle.bcast_model.specs.Control.{Cursors}
use Rattle.bcast_model.proofs.DeliveryLists.{in_longer, in_parts}
use Rattle.bcast_model.proofs.DeliveryMaps.{inserted}
use Rattle.bcast_model.proofs.Views.{slice_get-drop}
use Rattle.bcast_queue.specs.Queue.{Queued, passed, without}
use Rattle.bcast_store.specs.Stored.{AreHandedOut, IsHandedOut, IsOwed, with_cursors}
use Rattle.bcast_store.specs.Sound.{IsSound, store_of, owing_at}
use Rattle.bcast_store.proofs.Least.{insert_twice}
use Rattle.bcast_store.proofs.Owing.{owing-moved, reached, another, found}
use Rattle.bcast_store.proofs.Counted.{IsCounted, sound_without, with_cursors-queue}
use Rattle.bcast_store.proofs.Reading.{steps_up, sound_passed}

-- an item of the first part of a list
first_at : {T : Type 0} (xs : List T) (n i : ℕ) (x : T) → slice_get (take n xs) i ≡ Some x → slice_get xs i ≡ Some x
first_at xs n i x at = subst (λ ys. slice_get ys i ≡ Some x) (take-append-drop n xs) (in_longer (take n xs) (drop n xs) i x at)

-- ---- the counts
-- a receiver reads from its cursor on: first so many messages that are its alone, then so many that
-- others owe too
pub record ReadsMany {T : Type 0} (q : Queued T) (cursors : Cursors) (key number i own shared : ℕ) : Type 0 where
  pub sound : IsSound q cursors
  pub counted : IsCounted q
  pub at : get cursors key ≡ Some number
  pub is : number ≡ q.front + i
  pub first : 0 < own → i ≡ 0
  pub alone : 0 < own → get_or q.owed (own - 1) 0 ≡ 1
  pub within : i + (own + shared) ≤ length q.messages

module _ {T : Type 0} (q : Queued T) (cursors : Cursors) (key number i own shared : ℕ) (r : ReadsMany q cursors key number i own shared) where
  counted_without : IsCounted (without own q)
  counted_without = record {
    lengths = omega (arith, length-drop own q.owed, length-drop own q.messages, r.counted.lengths);
    owed = λ k d h. subst (λ n. 1 ≤ n) (sym (get_or-drop own q.owed k d)) (r.counted.owed (own + k) d (omega (arith, h, length-drop own q.owed)));
  }

  -- its own messages are gone, and it stands behind them
  sound_own : IsSound (without own q) (insert cursors key (number + own))
  sound_own =
      sound_without q (insert cursors key (number + own)) own (omega (arith, r.within))
      (λ j from h.
      let moved = owing-moved cursors key number (number + own) (q.front + j) r.at in
      let was = r.sound.owed_by j h in
      let same : ◌≡◌ {A = ℕ} (cond (nat_le number (q.front + j)) 1 0) (cond (nat_le (number + own) (q.front + j)) 1 0) = grind (arith, common_steps, r.is, r.first, from) in
      omega (arith, moved, was, same))
      (λ other c e. reached (q.front + length q.messages) cursors key (number + own) other c r.sound.reach (omega (arith, r.is, r.within)) e)

  -- its next message is owed by more than the one before
  pub steps_own : i < length (without own q).messages → 0 < i → get_or (without own q).owed (i - 1) 0 < get_or (without own q).owed i 0
  steps_own below some = steps_up (without own q) (insert cursors key (number + own)) key (number + own) i sound_own (inserted cursors key (number + own)) (omega (arith, r.is)) below some

  pub sound_many : IsSound (passed i shared (without own q)) (insert cursors key (number + (own + shared)))
  sound_many =
      let to : number + own + shared ≡ number + (own + shared) = omega arith in
      let index : number + own ≡ q.front + own + i = omega (arith, r.is) in
      let last = sound_passed (without own q) (insert cursors key (number + own)) key (number + own) (number + own) i shared sound_own counted_without
      (inserted cursors key (number + own)) index (omega arith) (λ _. refl) (omega (arith, r.within, length-drop own q.messages)) in
      subst (IsSound (passed i shared (without own q))) (insert_twice cursors key (number + own) (number + own + shared) ∙ ap (insert cursors key) to) last

  pub store_many : IsCounted (passed i shared (without own q)) → store_of (passed i shared (without own q)) (insert cursors key (number + (own + shared))) ≡ with_cursors (store_of q cursors) (insert cursors key (number + (own + shared)))
  store_many after =
      with_cursors-queue q (passed i shared (without own q)) cursors (insert cursors key (number + (own + shared))) own refl refl refl (omega (arith, r.within)) sound_many after (λ some.
      let one = r.alone some in
      let at = r.first some in
      let moved = owing-moved cursors key number (number + (own + shared)) (q.front + (own - 1)) r.at in
      let was = r.sound.owed_by (own - 1) (omega (arith, some, r.within)) in
      let before : ◌≡◌ {A = ℕ} (cond (nat_le number (q.front + (own - 1))) 1 0) 1 = grind (arith, common_steps, r.is, at) in
      let then : ◌≡◌ {A = ℕ} (cond (nat_le (number + (own + shared)) (q.front + (own - 1))) 1 0) 0 = grind (arith, common_steps, r.is, at, some) in
      omega (arith, moved, was, one, before, then))

  -- ---- the messages
  -- another receiver owes each message from the first shared one on
  owed_shared : IsNonDecreasing q.owed → 1 < get_or q.owed (i + own) 0 → (j : ℕ) → own ≤ j → i + j < length q.messages → IsOwed (store_of q cursors) key (number + j)
  owed_shared rises more j from below =
      let number_is : q.front + (i + j) ≡ number + j = omega (arith, r.is) in
      let up = rises (i + own) (i + j) 0 (omega (arith, from)) (omega (arith, below, r.counted.lengths)) in
      let owing = r.sound.owed_by (i + j) below in
      let two : 2 ≤ owing_at cursors (number + j) = subst (λ n. 2 ≤ owing_at cursors n) number_is (omega (arith, up, more, owing)) in
      let other = another cursors (number + j) key number r.at two in
      record {
        number = number + j;
        at = refl;
        kept = (omega (arith, r.is), omega (arith, r.is, below));
        other = other.0;
        differs = other.2;
        behind = other.1;
        owes = (other.3, other.4);
      }

  pub handed_many : (is_clone : T → T → Type 0) (before mid after : List T) → IsNonDecreasing q.owed → (0 < shared → 1 < get_or q.owed (i + own) 0) → mid ≡ before ++ take own q.messages
      → AppendsClones is_clone mid after (take shared (drop i (drop own q.messages))) → AreHandedOut (IsHandedOut is_clone (store_of q cursors) key) number before (own + shared) after
  handed_many is_clone before mid after rises more mid_is made =
      let mine = take own q.messages in
      let long : length mine ≡ own = omega (arith, length-take own q.messages, r.within) in
      let others : length made.0 ≡ shared = omega (arith, AllZip-long is_clone (take shared (drop i (drop own q.messages))) made.0 made.2, length-take shared (drop i (drop own q.messages)), length-drop i (drop own q.messages), length-drop own q.messages, r.within) in
      record {
        given = mine ++ made.0;
        put = made.1 ∙ ap (λ xs. xs ++ made.0) mid_is ∙ append_assoc before mine made.0;
        counted = omega (arith, length-append mine made.0, long, others);
        each = λ j msg at. elim (in_parts mine made.0 j msg at) [
          | inl moved ↦
              let below = slice_get_within mine j msg moved in
              let index : j ≡ number + j - q.front = omega (arith, r.is, r.first (omega (arith, below, long))) in
              inl (ap (slice_get q.messages) (sym index) ∙ first_at q.messages own j msg moved)
          | inr cloned ↦
              let from : own ≤ j = omega (arith, cloned.0, long) in
              let within = slice_get_within (mine ++ made.0) j msg at in
              let some : own < own + shared = omega (arith, within, from, length-append mine made.0, long, others) in
              let clone = subst (λ o. MatchOption o (Unit {0}) (λ y. IsSomeAnd (slice_get (take shared (drop i (drop own q.messages))) (j - length mine)) (λ x. is_clone x y))) cloned.1
              (AllZip-right is_clone (take shared (drop i (drop own q.messages))) made.0 made.2 (j - length mine)) in
              let kept = found (slice_get (take shared (drop i (drop own q.messages))) (j - length mine)) (λ x. is_clone x msg) clone in
              let index : own + i + (j - length mine) ≡ number + j - q.front = omega (arith, r.is, long, from) in
              let there : slice_get q.messages (own + i + (j - length mine)) ≡ Some kept.0 =
              sym (slice_get-drop (own + i) (j - length mine) q.messages)
              ∙ ap (λ xs. slice_get xs (j - length mine)) (sym (drop-drop i own q.messages)) ∙ first_at (drop i (drop own q.messages)) shared (j - length mine) kept.0 kept.1 in
              inr (
                owed_shared rises (more (omega (arith, some))) j from (omega (arith, within, length-append mine made.0, long, others, r.within)),
                subst (λ o. IsSomeAnd o (λ kept. is_clone kept msg)) (sym (ap (slice_get q.messages) (sym index) ∙ there)) kept.2,
              )
        ];
      }
