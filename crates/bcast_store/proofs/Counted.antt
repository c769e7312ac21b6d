-- What holds of a store, and of one with other cursors, by its counts.
use Rattle.std.proofs.Common.{◌≡◌, inl, inr, ℕ, ◌+◌, ◌-◌, ◌^◌, ◌<◌, ◌≤◌, All, length, Some, get_or, drop, max, sym, ap, ◌∙◌, subst, arith, length-drop}
use Rattle.std.proofs.lemmas.Grind.{common_steps}
use Rattle.std.proofs.lemmas.Bool.{cases_lt}
use Rattle.std.proofs.lemmas.List.{get_or-drop}
use Rattle.std.specs.FinMap.{get, len, values}
use Rattle.bcast_model.specs.Words.{Cursors, least}
use Rattle.bcast_queue.specs.Queue.{Queued, without}
use Rattle.bcast_store.specs.Stored.{Stored, IsSettled, end_of, with_cursors}
use Rattle.bcast_store.specs.Sound.{IsSound, store_of, owing_at}
use Rattle.bcast_store.proofs.Least.{least-le-cursor, least-le-limit, least-greatest}
use Rattle.bcast_store.proofs.Owing.{some_owes, owes_counts}

-- what the queue's invariant says of its counts
pub record IsCounted {T : Type 0} (q : Queued T) : Type 0 where
  pub lengths : length q.owed ≡ length q.messages
  pub owed : All (λ n. 1 ≤ n) q.owed

-- if no receiver has still to read the message before `front`, every cursor is there or past it
passed : (cursors : Cursors) (front end : ℕ) → front ≤ end → 0 < front → owing_at cursors (front - 1) ≡ 0 → front ≤ least end (values cursors)
passed cursors front end within some none =
    least-greatest front end cursors within (λ key cursor at. elim (cases_lt cursor front) [
      | inl under ↦ (let o = owes_counts cursors (front - 1) key cursor at (omega arith) in absurd (omega (arith, o, none)))
      | inr past ↦ past
    ])

module _ {T : Type 0} where
  pub owed_at : (q : Queued T) (i : ℕ) → IsCounted q → i < length q.messages → 1 ≤ get_or q.owed i 0
  owed_at q i n h = n.owed i 0 (omega (arith, n.lengths))

  -- the front is no less than the least cursor
  pub front_met : (q : Queued T) (cursors : Cursors) → IsSound q cursors → IsCounted q → least (q.front + length q.messages) (values cursors) ≤ q.front
  front_met q cursors s n = grind (arith, common_steps, cases_lt, some_owes, owed_at, least-le-cursor, least-le-limit)

  pub settled : (q : Queued T) (cursors : Cursors) → IsSound q cursors → IsCounted q → length q.messages ≤ q.room → q.front + length q.messages < 2 ^ 64 → len cursors < 2 ^ 64 → IsSettled (store_of q cursors)
  settled q cursors s n fits end_fits receivers_fit = grind (arith, common_steps, front_met)

  -- the first n messages go, if the counts of the others are right
  pub sound_without : (q : Queued T) (cursors : Cursors) (n : ℕ) → n ≤ length q.messages → ((i : ℕ) → n ≤ i → i < length q.messages → get_or q.owed i 0 ≡ owing_at cursors (q.front + i))
      → ((key cursor : ℕ) → get cursors key ≡ Some cursor → cursor ≤ q.front + length q.messages) → IsSound (without n q) cursors
  sound_without q cursors n within counts reach =
      let size = length-drop n q.messages in
      record {
        owed_by = λ i h.
            let at : q.front + (n + i) ≡ (q.front + n) + i = omega arith in
            get_or-drop n q.owed i 0 ∙ counts (n + i) (omega arith) (omega (arith, h, size)) ∙ ap (owing_at cursors) at;
        reach = λ key c e. let end = reach key c e in omega (arith, end, size, within);
      }

  -- ---- other cursors
  -- the front moves to this number, and the messages before it are dropped
  pub with_cursors-front : (s : Stored T) (cursors : Cursors) (front n : ℕ) → max s.front (least (end_of s) (values cursors)) ≡ front → front - s.front ≡ n
      → with_cursors s cursors ≡ record { front = front; queue = drop n s.queue; cursors = cursors; room = s.room }
  with_cursors-front s cursors front n is goes = grind (arith, common_steps)

  -- a queue that lost its first n messages, the last of which no receiver has still to read
  pub with_cursors-queue : (q new : Queued T) (old cursors : Cursors) (n : ℕ) → new.front ≡ q.front + n → new.messages ≡ drop n q.messages → new.room ≡ q.room → n ≤ length q.messages
      → IsSound new cursors → IsCounted new → (0 < n → owing_at cursors (q.front + (n - 1)) ≡ 0) → store_of new cursors ≡ with_cursors (store_of q old) cursors
  with_cursors-queue q new old cursors n front messages room within s c none =
      let size = ap length messages ∙ length-drop n q.messages in
      let end : new.front + length new.messages ≡ q.front + length q.messages = omega (arith, size) in
      let low : least (q.front + length q.messages) (values cursors) ≤ new.front = subst (λ x. least x (values cursors) ≤ new.front) end (front_met new cursors s c) in
      let high : 0 < n → new.front ≤ least (q.front + length q.messages) (values cursors) = λ some.
      passed cursors new.front (q.front + length q.messages) (omega (arith, front)) (omega (arith, front)) (ap (owing_at cursors) (let e : new.front - 1 ≡ q.front + (n - 1) = omega (arith, front) in e) ∙ none some) in
      let is : max q.front (least (q.front + length q.messages) (values cursors)) ≡ new.front = elim (cases_lt 0 n) [
        | inl some ↦ (let h = high some in omega (arith, low, h, front))
        | inr stays ↦ omega (arith, low, stays, front)
      ] in
      (λ i. record { front = new.front; queue = messages i; cursors = cursors; room = room i })
      ∙ sym (with_cursors-front (store_of q old) cursors new.front n is (omega (arith, front)))
