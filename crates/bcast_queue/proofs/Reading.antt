-- The first message goes; and a reader moves on, past messages that other readers owe too.
use Rattle.std.proofs.Common.{◌≡◌, ℕ, suc, ◌+◌, ◌-◌, ◌<◌, ◌≤◌, All, List, Some, length, drop, get_or, set, slice_get, sum, ap, sym, ◌∙◌, arith, length-drop}
use Rattle.std.proofs.lemmas.Grind.{common_steps}
use Rattle.std.proofs.lemmas.List.{length-map, drop-map}
use Rattle.std.proofs.lemmas.Option.{slice_get_within}
use Rattle.circular_buffer.specs.Buffer.{Buffer, buffer}
use Rattle.bcast_queue.specs.declared.entry.Entry.{Entry}
use Rattle.bcast_queue.specs.Queue.{Queued, one_more_from, one_fewer_from, passed, read_at, without}
use Rattle.bcast_queue.specs.Entries.{counts, messages, message_of, owed_by, more_from, queue_of, IsSound}
use Rattle.bcast_queue.proofs.Owed.{RisesFrom-drop}
use Rattle.bcast_queue.proofs.OwedBy.{one_moves, first_left, get_or-owed_by, owed_by-rest, first_is_owed}
use Rattle.bcast_queue.proofs.Entries.{next_at}
use Rattle.bcast_queue.proofs.Unowed.{AreLeft}
use Rattle.bcast_queue.proofs.Queues.{IsQueue-seen, sound-kept, same_queue}

module _ {X : Type 0} where
  -- ---- the first message goes, and leaves its count to the next
  -- the first entry is taken out, and its readers are added at the next one
  pub record IsPopped (ring rest after : Buffer (Entry X)) (total next : ℕ) (e : Entry X) : Type 0 where
    pub at : Some e ≡ slice_get ring.items 0
    pub rest_is : rest ≡ buffer (drop 1 ring.items) ring.capacity
    pub looked_at : next ≡ e.next + 0 - 0
    pub owed : owed_by 0 (counts after) ≡ more_from next 0 (owed_by 0 (counts rest))
    pub kept : messages after ≡ messages rest
    pub summed : total ≡ sum (counts after)
    pub capacity : after.capacity ≡ rest.capacity

  module _ (front total room : ℕ) (ring : Buffer (Entry X)) (q : Queued X) (sound : IsSound front total room ring) (seen : queue_of front ring room ≡ q) where
    messages-popped : (rest after : Buffer (Entry X)) (t n : ℕ) (e : Entry X) → IsPopped ring rest after t n e → messages after ≡ drop 1 q.messages
    messages-popped rest after t n e is = is.kept ∙ ap messages is.rest_is ∙ sym (drop-map message_of 1 ring.items) ∙ ap (λ p. drop 1 p.messages) seen

    owed-popped : (rest after : Buffer (Entry X)) (t n : ℕ) (e : Entry X) → IsPopped ring rest after t n e → owed_by 0 (counts after) ≡ drop 1 q.owed
    owed-popped rest after t n e is = grind (arith, common_steps, drop-map, next_at, owed_by-rest)

    pub sound-popped : (rest after : Buffer (Entry X)) (t n : ℕ) (e : Entry X) → IsPopped ring rest after t n e → IsSound (front + 1) t room after
    sound-popped rest after t n e is =
        let queue = IsQueue-seen _ _ _ _ q sound seen in
        let long : length (messages after) + 1 ≡ length ring.items =
        omega (arith, ap length (messages-popped rest after t n e is), length-drop 1 q.messages, ap (λ p. length p.messages) seen, length-map ring.items message_of, slice_get_within ring.items 0 e (sym is.at)) in
        sound-kept _ _ _ _ _ ring after sound
        (record { summed = is.summed; owed = first_is_owed (counts after) _ (owed-popped rest after t n e is) (RisesFrom-drop 1 q.owed queue.rises) })
        (omega (arith, long, length-map after.items message_of, sound.numbered)) (omega (arith, long, length-map ring.items message_of)) (is.capacity ∙ ap (λ b. b.capacity) is.rest_is)

    pub seen-popped : (rest after : Buffer (Entry X)) (t n : ℕ) (e : Entry X) → IsPopped ring rest after t n e → queue_of (front + 1) after room ≡ without 1 q
    seen-popped rest after t n e is = grind (arith, common_steps, same_queue, messages-popped, owed-popped)

  -- ---- a reader moves on, past messages that other readers owe too
  -- a reader is taken away at the index i, and added at the index j
  pub record MovesOn (ring after : Buffer (Entry X)) (total t i j : ℕ) : Type 0 where
    pub between : List ℕ
    pub left : AreLeft total i (counts ring) between
    pub owed : owed_by 0 (counts after) ≡ one_more_from j (owed_by 0 between)
    pub messages : messages after ≡ messages ring
    pub summed : t ≡ sum (counts after)
    pub capacity : after.capacity ≡ ring.capacity

  module _ (front total room : ℕ) (ring : Buffer (Entry X)) (q : Queued X) (sound : IsSound front total room ring) (seen : queue_of front ring room ≡ q) (i j : ℕ) where
    owed-moved : (after : Buffer (Entry X)) (t : ℕ) → MovesOn ring after total t i j → owed_by 0 (counts after) ≡ one_more_from j (one_fewer_from i q.owed)
    owed-moved after t moves = moves.owed ∙ ap (one_more_from j) (moves.left.owed ∙ ap (λ p. one_fewer_from i p.owed) seen)

    pub sound-moved : 1 < get_or q.owed i 0 → (after : Buffer (Entry X)) (t : ℕ) → MovesOn ring after total t i j → IsSound front t room after
    sound-moved several after t moves =
        let is = IsQueue-seen _ _ _ _ q sound seen in
        let long = ap length moves.messages in
        let first = ap (λ ns. get_or ns 0 0) (owed-moved after t moves) in
        sound-kept _ _ _ _ _ ring after sound
        (record { summed = moves.summed; owed = λ _. omega (arith, get_or-owed_by (counts after), first, first_left i j q.owed is.rises several) })
        (omega (arith, long, length-map after.items message_of, length-map ring.items message_of, sound.numbered)) (omega (arith, long)) moves.capacity

    -- past so many messages
    pub seen-moved : (n : ℕ) → j ≡ i + n → (after : Buffer (Entry X)) (t : ℕ) → MovesOn ring after total t i j → queue_of front after room ≡ passed i n q
    seen-moved n is after t moves =
        same_queue _ _ _ _ _ _ _ _
        (ap (λ p. p.front) seen) (moves.messages ∙ ap (λ p. p.messages) seen)
        (owed-moved after t moves ∙ ap (λ k. one_more_from k (one_fewer_from i q.owed)) is) (ap (λ p. p.room) seen)

  -- past one message, which is owed by one reader fewer then
  pub passed_one : (q : Queued X) (i : ℕ) → All (λ n. 1 ≤ n) q.owed → passed i 1 q ≡ record q { owed = set q.owed i (get_or q.owed i 0 - 1) }
  passed_one q i some =
      let next : i + 1 ≡ suc i = omega arith in
      ap (λ owed. record q { owed = owed }) (ap (λ j. one_more_from j (one_fewer_from i q.owed)) next ∙ one_moves i q.owed some)

  -- as a read of a message that several owe
  pub read_several : (q : Queued X) (i : ℕ) → 1 < get_or q.owed i 0 → read_at i q ≡ record q { owed = set q.owed i (get_or q.owed i 0 - 1) }
  read_several q i several = grind (arith, common_steps)
