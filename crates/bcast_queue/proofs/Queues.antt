-- What the calls of a queue do to what a contract sees of it.
use Rattle.std.proofs.Common.{◌≡◌, ◌≢◌, ℕ, ◌+◌, ◌-◌, ◌<◌, ◌≤◌, ◌^◌, get_or, drop, length, List, slice_get, Some, sym, ap, arith}
use Rattle.std.proofs.lemmas.Grind.{common_steps}
use Rattle.std.proofs.lemmas.List.{length-map}
use Rattle.std.proofs.lemmas.Option.{slice_get-map}
use Rattle.circular_buffer.specs.Buffer.{Buffer}
use Rattle.bcast_queue.specs.declared.entry.Entry.{Entry}
use Rattle.bcast_queue.specs.Queue.{one_fewer_from, Queued, queue_with, without_reader}
use Rattle.bcast_queue.specs.Entries.{counts, messages, message_of, next_of, owed_by, queue_of, AreCounted, IsSound}
use Rattle.bcast_queue.proofs.Owed.{RisesFrom, at_least, none_gone}
use Rattle.bcast_queue.proofs.Entries.{next_at}
use Rattle.bcast_queue.proofs.OwedBy.{RisesFrom-owed_by, length-owed_by, get_or-owed_by, reader_of, same_at_end}
use Rattle.bcast_queue.proofs.Unowed.{AreUnowed}

module _ {X : Type 0} where
  pub same_queue : (a b : ℕ) (xs ys : List X) (ms ns : List ℕ) (r s : ℕ) → a ≡ b → xs ≡ ys → ms ≡ ns → r ≡ s → queue_with a xs ms r ≡ queue_with b ys ns s
  same_queue a b xs ys ms ns r s front messages owed room = λ i. queue_with (front i) (messages i) (owed i) (room i)

  -- what the invariant says of the counts
  pub record IsQueue (q : Queued X) : Type 0 where
    pub rises : RisesFrom 1 q.owed
    pub lengths : length q.owed ≡ length q.messages

  pub IsQueue-seen : (front total room : ℕ) (ring : Buffer (Entry X)) (q : Queued X) → IsSound front total room ring → queue_of front ring room ≡ q → IsQueue q
  IsQueue-seen front total room ring q sound seen = grind (arith, common_steps, RisesFrom-owed_by, length-owed_by, length-map)

  -- a reader is counted at a message that more owe than the one before it
  pub reader_at : (front total room : ℕ) (ring : Buffer (Entry X)) (q : Queued X) (i : ℕ) → IsSound front total room ring → queue_of front ring room ≡ q → i < length ring.items → (0 < i → i < length q.messages → get_or q.owed (i - 1) 0 < get_or q.owed i 0) → 0 < get_or (counts ring) i 0
  reader_at front total room ring q i sound seen inside before =
      let long = ap (λ p. length p.messages) seen in
      let within : i < length q.messages = omega (arith, inside, sym long, length-map ring.items message_of) in
      let above : 0 < i → get_or q.owed (i - 1) 0 < get_or q.owed i 0 = λ some. before some within in
      reader_of total i (counts ring) sound.counted (omega (arith, inside, length-map ring.items next_of)) (rw (← seen) at above)

  -- a ring of which messages may have gone
  pub sound-kept : (front f total t room : ℕ) (ring after : Buffer (Entry X)) → IsSound front total room ring → AreCounted t (counts after) → f + length after.items < 2 ^ 64 → length (messages after) ≤ length (messages ring) → after.capacity ≡ ring.capacity → IsSound f t room after
  sound-kept front f total t room ring after sound counted numbered fewer capacity = grind (arith, common_steps, length-map)

  -- the message of an entry
  pub message_at : (front room : ℕ) (ring : Buffer (Entry X)) (q : Queued X) (i : ℕ) (e : Entry X) → queue_of front ring room ≡ q → slice_get ring.items i ≡ Some e → slice_get q.messages i ≡ Some e.message
  message_at front room ring q i e seen is = grind (arith, common_steps, slice_get-map)

  -- how many owe the first message, by its entry
  pub owed_first : (front room : ℕ) (ring : Buffer (Entry X)) (q : Queued X) (i : ℕ) (e : Entry X) → queue_of front ring room ≡ q → slice_get ring.items i ≡ Some e → i ≡ 0 → get_or q.owed i 0 ≡ e.next
  owed_first front room ring q i e seen is first = grind (arith, common_steps, get_or-owed_by, next_at)

  -- a message that isn't the first is owed by several readers
  pub owed_more : (q : Queued X) (i : ℕ) → IsQueue q → i < length q.messages → (0 < i → get_or q.owed (i - 1) 0 < get_or q.owed i 0) → (i ≡ 0 → get_or q.owed i 0 ≢ 1) → 1 < get_or q.owed i 0
  owed_more q i is within before other = grind (arith, common_steps, at_least)

  -- a reader leaves, and each message is still owed
  pub left_behind : (q : Queued X) (i : ℕ) (ns : List ℕ) → ns ≡ one_fewer_from i q.owed → RisesFrom 1 ns → queue_with q.front q.messages ns q.room ≡ without_reader i q
  left_behind q i ns is rises = grind (arith, common_steps, none_gone)

  -- a reader leaves, and the first k messages are dropped
  pub left_front : (q : Queued X) (i k : ℕ) (ns : List ℕ) → owed_by 0 ns ≡ one_fewer_from i q.owed → AreUnowed ns k → queue_with (q.front + k) (drop k q.messages) (owed_by 0 (drop k ns)) q.room ≡ without_reader i q
  left_front q i k ns is unowed = grind (arith, common_steps, same_queue)

  -- at the end no reader leaves
  pub left_at_end : (q : Queued X) (i : ℕ) → IsQueue q → length q.messages ≤ i → q ≡ without_reader i q
  left_at_end q i is end = left_behind q i q.owed (sym (same_at_end (λ n. n - 1) i q.owed (omega (arith, end, is.lengths)))) is.rises

-- what the check needs for a look at the first message's count
pub ruleset looked_at_first = (common_steps, same_queue, get_or-owed_by)
