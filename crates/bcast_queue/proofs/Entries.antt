-- A ring of entries, from one of which a reader is taken away.
use Rattle.std.proofs.Common.{◌≡◌, ℕ, ◌+◌, ◌-◌, ◌<◌, Option, Some, List, map, set, get_or, slice_get, ap, subst, sym, ◌∙◌, arith}
use Rattle.std.specs.Option.{option_map}
use Rattle.std.proofs.lemmas.Grind.{common_steps}
use Rattle.std.proofs.lemmas.List.{length-map, map-set, set-get_or}
use Rattle.std.proofs.lemmas.Option.{slice_get-map, slice_get_within, get_or_from_slice_get}
use Rattle.circular_buffer.specs.Buffer.{Buffer, buffer}
use Rattle.bcast_queue.specs.declared.entry.Entry.{Entry}
use Rattle.bcast_queue.specs.Entries.{message_of, next_of, AreCounted, IsSound}
use Rattle.bcast_queue.proofs.Unowed.{AreLeft, AreLeft-set}

module _ {X : Type 0} where
  -- the count of an entry
  pub next_at : (items : List (Entry X)) (i : ℕ) (e : Entry X) → slice_get items i ≡ Some e → get_or (map next_of items) i 0 ≡ e.next
  next_at items i e at = get_or_from_slice_get (map next_of items) i e.next 0 (slice_get-map next_of items i ∙ ap (option_map next_of) at)

  -- an entry whose count was looked at is as it was
  pub looked_at : (m : ℕ) (o : Option (Entry X)) (e new : Entry X) → o ≡ Some e → new ≡ record { message = e.message; next = m } → m ≡ e.next + 0 - 0 → o ≡ Some new
  looked_at m o e new at changed counted =
      let same : e.next ≡ m = omega (arith, counted) in
      at ∙ ap (λ n. Some (record { message = e.message; next = n })) same ∙ ap Some (sym changed)

  -- an entry that is put where it was
  pub same_ring : (ring : Buffer (Entry X)) (i : ℕ) (e : Entry X) → slice_get ring.items i ≡ Some e → buffer (set ring.items i e) ring.capacity ≡ ring
  same_ring ring i e at =
      ap (λ items. buffer items ring.capacity)
      (ap (set ring.items i) (sym (get_or_from_slice_get ring.items i e e at)) ∙ set-get_or ring.items i e)

  pub sound-same : (front total room : ℕ) (ring : Buffer (Entry X)) (i : ℕ) (e : Entry X) → IsSound front total room ring → slice_get ring.items i ≡ Some e
      → IsSound front total room (buffer (set ring.items i e) ring.capacity)
  sound-same front total room ring i e sound at = subst (IsSound front total room) (sym (same_ring ring i e at)) sound

  -- an entry with another count has the same message
  pub messages-set : (items : List (Entry X)) (i : ℕ) (e new : Entry X) → slice_get items i ≡ Some e → new.message ≡ e.message → map message_of (set items i new) ≡ map message_of items
  messages-set items i e new at same =
      let there = slice_get-map message_of items i ∙ ap (option_map message_of) at in
      map-set message_of items i new
      ∙ ap (set (map message_of items) i) (same ∙ sym (get_or_from_slice_get (map message_of items) i e.message e.message there))
      ∙ set-get_or (map message_of items) i e.message

  -- the entry with one reader fewer
  abbrev pub fewer : Entry X → Entry X
  fewer e = record { message = e.message; next = e.next - 1 }

  pub one_fewer : (m : ℕ) (e new : Entry X) → new ≡ record { message = e.message; next = m } → m ≡ e.next + 0 - 1 → new ≡ fewer e
  one_fewer m e new changed counted =
      let same : m ≡ e.next - 1 = omega (arith, counted) in
      changed ∙ ap (λ n. record { message = e.message; next = n }) same

  pub taken : (t : ℕ) (items : List (Entry X)) (i : ℕ) (e : Entry X) → AreCounted t (map next_of items) → slice_get items i ≡ Some e → 0 < e.next → AreLeft t i (map next_of items) (map next_of (set items i (fewer e)))
  taken t items i e counted at some =
      AreLeft-set t i (e.next - 1) (map next_of items) _ counted
      (omega (arith, slice_get_within items i e at, length-map items next_of)) (omega (arith, some, next_at items i e at)) (map-set next_of items i (fewer e))

-- what the check needs where a count is changed
pub ruleset changed_count = (common_steps, map-set, messages-set)
