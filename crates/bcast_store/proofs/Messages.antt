-- The counts of a new store, and after a message was appended.
use Rattle.std.proofs.Common.{◌≡◌, ℕ, ◌+◌, ◌<◌, ◌≤◌, [], ◌∷◌, ◌++◌, length, sym, subst, arith, length-append, rules}
use Rattle.std.proofs.lemmas.Grind.{common_steps}
use Rattle.std.proofs.lemmas.Option.{none-some, slice_get_within, get_or_from_slice_get}
use Rattle.std.specs.Option.{ForSome}
use Rattle.std.specs.FinMap.{len, empty, get-empty}
use Rattle.bcast_model.specs.Control.{Cursors}
use Rattle.bcast_queue.specs.Queue.{last_item, Queued, queue_with}
use Rattle.bcast_store.specs.Sound.{IsSound, store_of}
use Rattle.bcast_store.proofs.Owing.{all_owe, few_owe}

module _ {T : Type 0} where
  pub same_sound : (a b : Queued T) (m n : Cursors) → a ≡ b → m ≡ n → IsSound b n → IsSound a m
  same_sound a b m n p r s = subst (λ x. IsSound x m) (sym p) (subst (λ y. IsSound b y) (sym r) s)

  pub same_store : (a b : Queued T) (m n : Cursors) → a ≡ b → m ≡ n → store_of a m ≡ store_of b n
  same_store a b m n p r = λ i. store_of (p i) (r i)

  -- the last message is owed by no more receivers than there are
  pub last_owed : (q : Queued T) (cursors : Cursors) → IsSound q cursors → length q.owed ≡ length q.messages → ForSome (last_item q.owed) (λ n. n ≤ len cursors)
  last_owed q cursors s lengths n is = search (rules, slice_get_within, get_or_from_slice_get, few_owe)

  pub last_below : (q : Queued T) (cursors : Cursors) (top : ℕ) → IsSound q cursors → length q.owed ≡ length q.messages → len cursors < top → ForSome (last_item q.owed) (λ n. n < top)
  last_below q cursors top s lengths few n is = let a = last_owed q cursors s lengths n is in omega arith

  -- every receiver has still to read an appended message
  pub sound_push : (q : Queued T) (msg : T) (cursors : Cursors) → IsSound q cursors → length q.owed ≡ length q.messages → IsSound (record q { messages = q.messages ++ msg ∷ []; owed = q.owed ++ len cursors ∷ [] }) cursors
  sound_push q msg cursors s lengths =
      let all = all_owe cursors (q.front + length q.messages) s.reach in
      let size = length-append q.messages (msg ∷ []) in
      record {
        owed_by = λ i h. grind (arith, common_steps, s.owed_by i, all, lengths, size, h);
        reach = λ key cursor at. let l = s.reach key cursor at in omega (arith, size);
      }

  -- no receiver, and no message
  pub sound_new : (first room : ℕ) → IsSound {T = T} (queue_with first [] [] room) empty
  sound_new first room = grind (arith, common_steps, none-some, get-empty)

-- what the check needs for `new` and `push`
pub ruleset message_calls = (common_steps, same_sound, sound_new, sound_push, last_owed)
