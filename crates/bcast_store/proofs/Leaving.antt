-- The counts stay right when a receiver is added or leaves.
use Rattle.std.proofs.Common.{◌≡◌, inl, inr, ℕ, ◌+◌, ◌-◌, ◌<◌, ◌≤◌, cond, eqb, length, Some, None, get_or, count_by, nat_le, refl, arith}
use Rattle.std.proofs.lemmas.Grind.{common_steps}
use Rattle.std.proofs.lemmas.Bool.{cases_lt}
use Rattle.std.proofs.lemmas.List.Sums.{count_by-le-length}
use Rattle.std.specs.FinMap.{get, insert, remove}
use Rattle.bcast_model.specs.Control.{Cursors}
use Rattle.bcast_queue.specs.Queue.{Queued, with_reader, without_reader, one_fewer_from}
use Rattle.bcast_queue.proofs.Pointwise.{length-one_fewer_from, get_or-one_more_from, get_or-one_fewer_from, few_gone}
use Rattle.bcast_store.specs.Stored.{with_cursors}
use Rattle.bcast_store.specs.Sound.{IsSound, store_of, owing_at}
use Rattle.bcast_store.proofs.Owing.{owing-joined, owing-left, owing-rises, owes_counts, reached, stayed}
use Rattle.bcast_store.proofs.Counted.{IsCounted, sound_without, with_cursors-queue}
use Rattle.bcast_store.proofs.Least.{remove-absent}
use Rattle.bcast_store.proofs.Messages.{same_sound, same_store}
use Rattle.bcast_store.proofs.Reading.{steps_up}

module _ {T : Type 0} where
  pub sound_joined : (q : Queued T) (cursors : Cursors) (key cursor : ℕ) → IsSound q cursors → length q.owed ≡ length q.messages → get cursors key ≡ None → cursor ≤ q.front + length q.messages → IsSound (with_reader (cursor - q.front) q) (insert cursors key cursor)
  sound_joined q cursors key cursor s lengths none within =
      record {
        owed_by = λ i h.
            let a = get_or-one_more_from (cursor - q.front) q.owed i (omega arith) in
            let b = s.owed_by i h in
            let d = owing-joined cursors key cursor (q.front + i) none in
            let same : ◌≡◌ {A = ℕ} (cond (nat_le (cursor - q.front) i) 1 0) (cond (nat_le cursor (q.front + i)) 1 0) = grind (arith, common_steps) in
            omega (arith, a, b, d, same);
        reach = λ other c e. reached (q.front + length q.messages) cursors key cursor other c s.reach within e;
      }

  -- each count less the receiver that leaves
  owed_left : (q : Queued T) (cursors : Cursors) (key cursor : ℕ) → IsSound q cursors → length q.owed ≡ length q.messages → get cursors key ≡ Some cursor → (i : ℕ) → i < length q.messages
      → get_or (one_fewer_from (cursor - q.front) q.owed) i 0 ≡ owing_at (remove cursors key) (q.front + i)
  owed_left q cursors key cursor s lengths at i h =
      let b = s.owed_by i h in
      let a = get_or-one_fewer_from (cursor - q.front) q.owed i (omega arith) (λ l. let x = owes_counts cursors (q.front + i) key cursor at (omega arith) in omega (arith, x, b)) in
      let d = owing-left cursors key cursor (q.front + i) at in
      let same : ◌≡◌ {A = ℕ} (cond (nat_le (cursor - q.front) i) 1 0) (cond (nat_le cursor (q.front + i)) 1 0) = grind (arith, common_steps) in
      omega (arith, a, b, d, same)

  -- how many messages are dropped
  abbrev gone : Queued T → ℕ → ℕ
  gone q i = count_by (λ n. eqb n 0) (one_fewer_from i q.owed)

  gone_within : (q : Queued T) (i : ℕ) → length q.owed ≡ length q.messages → gone q i ≤ length q.messages
  gone_within q i lengths = let a = count_by-le-length (λ n. eqb n 0) (one_fewer_from i q.owed) in let b = length-one_fewer_from i q.owed in omega (arith, a, b, lengths)

  pub sound_left : (q : Queued T) (cursors : Cursors) (key cursor : ℕ) → IsSound q cursors → length q.owed ≡ length q.messages → get cursors key ≡ Some cursor → IsSound (without_reader (cursor - q.front) q) (remove cursors key)
  sound_left q cursors key cursor s lengths at =
      sound_without (record q { owed = one_fewer_from (cursor - q.front) q.owed }) (remove cursors key) (gone q (cursor - q.front)) (gone_within q (cursor - q.front) lengths)
      (λ i _ h. owed_left q cursors key cursor s lengths at i h)
      (λ other c e. stayed (q.front + length q.messages) cursors key other c s.reach e)

  -- no receiver has still to read the last message that is dropped
  nobody_left : (q : Queued T) (cursors : Cursors) (key cursor : ℕ) → IsSound q cursors → length q.owed ≡ length q.messages → get cursors key ≡ Some cursor
      → 0 < gone q (cursor - q.front) → owing_at (remove cursors key) (q.front + (gone q (cursor - q.front) - 1)) ≡ 0
  nobody_left q cursors key cursor s lengths at some =
      let last = gone q (cursor - q.front) - 1 in
      elim (cases_lt 0 (owing_at (remove cursors key) (q.front + last))) [
        | inl owes ↦
            let few = few_gone last (one_fewer_from (cursor - q.front) q.owed) (λ i from h.
            let here = owed_left q cursors key cursor s lengths at i (omega (arith, h, length-one_fewer_from (cursor - q.front) q.owed, lengths)) in
            let up = owing-rises (remove cursors key) (q.front + last) (q.front + i) (omega (arith, from)) in
            omega (arith, here, up, owes)) in
            absurd (omega (arith, few, some))
        | inr none ↦ omega (arith, none)
      ]

  -- the store once a receiver left
  pub store_left : (q : Queued T) (cursors : Cursors) (key cursor : ℕ) → IsSound q cursors → length q.owed ≡ length q.messages → get cursors key ≡ Some cursor → IsCounted (without_reader (cursor - q.front) q)
      → store_of (without_reader (cursor - q.front) q) (remove cursors key) ≡ with_cursors (store_of q cursors) (remove cursors key)
  store_left q cursors key cursor s lengths at after =
      with_cursors-queue q (without_reader (cursor - q.front) q) cursors (remove cursors key) (gone q (cursor - q.front)) refl refl refl (gone_within q (cursor - q.front) lengths)
      (sound_left q cursors key cursor s lengths at) after (nobody_left q cursors key cursor s lengths at)

-- what the check needs for `remove`
pub ruleset leaving_calls = (common_steps, same_sound, same_store, remove-absent, steps_up, sound_left, store_left)
