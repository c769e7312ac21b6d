-- What is seen once a receiver has moved on, and a send was told.
use Rattle.std.proofs.Common.{◌≡◌, inl, inr, ℕ, ◌+◌, ◌-◌, ◌≤◌, true, cond, [], ◌++◌, length, max, drop, Some, slice_get, refl, sym, ap, ◌∙◌, arith, append-nil, length-drop, drop-drop}
use Rattle.std.proofs.lemmas.Bool.{cases_eq}
use Rattle.std.proofs.lemmas.Grind.{common_steps}
use Rattle.std.proofs.lemmas.Option.{same_Some}
use Rattle.std.specs.FinMap.{get, insert, values}
use Rattle.bcast_model.specs.Words.{Cursors, View, cursor_of, kept_at, least, sends_are_ready, sets, settle, tell_a_sender, tell_if_ready, with_cursor}
pub use Rattle.bcast_model.proofs.Cases.{told_is}
use Rattle.bcast_model.proofs.Cases.{test_is, told_already}
use Rattle.bcast_model.proofs.DeliveryMaps.{inserted, inserted_other}
use Rattle.bcast_model.proofs.Least.{least-le-cursor, least-le-limit, least-greatest, len_insert, len_some}
use Rattle.bcast_model.proofs.Views.{slice_get-drop}
use Rattle.bcast_store.proofs.Least.{insert_twice}
use Rattle.bcast_core.proofs.Settle.{settle_to}

-- the least cursor rises with each
least_moved : (end : ℕ) (m : Cursors) (key from to : ℕ) → from ≤ to → least end (values (insert m key from)) ≤ least end (values (insert m key to))
least_moved end m key from to rises =
    let was = insert m key from in
    let own = least-le-cursor end was key from (inserted m key from) in
    least-greatest (least end (values was)) end (insert m key to) (least-le-limit end (values was)) (λ q c is. elim (cases_eq q key) [
      | inl same ↦ let e : to ≡ c = same_Some to c (sym (inserted m key to) ∙ ap (λ k. get (insert m key to) k) (sym same) ∙ is) in omega (arith, own, rises, e)
      | inr differs ↦ least-le-cursor end was q c (inserted_other m key from q differs ∙ sym (inserted_other m key to q differs) ∙ is)
    ])

module _ {T : Type 0} where
  -- the receiver `key` has moved on to this number
  abbrev pub moved : View T → ℕ → ℕ → View T
  moved v key to = settle v (sets (with_cursor v.control key to))

  -- and one send was told, if sends are ready
  abbrev pub after : View T → ℕ → ℕ → View T
  after v key to = tell_if_ready (moved v key to)

  moved_twice : (v : View T) (key from to : ℕ) → from ≤ to → moved (moved v key from) key to ≡ moved v key to
  moved_twice v key from to rises =
      let w = moved v key from in
      let new = moved v key to in
      let low = least_moved (v.end + 0) v.control.cursors key from to rises in
      let dropped : w.front - v.front + (new.front - w.front) ≡ new.front - v.front = omega (arith, low) in
      let end : w.end + 0 ≡ new.end = omega arith in
      let front : (moved w key to).front ≡ new.front =
      ap (λ e. max (max w.front 0) (least e (values (insert w.control.cursors key to)))) end
      ∙ ap (λ m. max (max w.front 0) (least (v.end + 0) (values m))) (insert_twice v.control.cursors key from to)
      ∙ omega (arith, low) in
      settle_to w (sets (with_cursor w.control key to)) new front
      (ap (drop (new.front - w.front)) (append-nil w.queue) ∙ drop-drop (new.front - w.front) (w.front - v.front) (v.queue ++ []) ∙ ap (λ n. drop n (v.queue ++ [])) dropped)
      end (ap (λ m. record v.control { cursors = m }) (insert_twice v.control.cursors key from to))

  -- ---- readiness
  -- a receiver that moves on adds no message
  shorter : (v : View T) (key to : ℕ) → length (moved v key to).queue ≤ length v.queue
  shorter v key to = omega (arith, length-drop ((moved v key to).front - v.front) (v.queue ++ []), ap length (append-nil v.queue))

  -- sends that are ready stay so
  ready_moved : (v : View T) (key cursor to : ℕ) → cursor_of v.control key ≡ Some cursor → length v.queue ≤ v.control.capacity → sends_are_ready v ≡ true → sends_are_ready (moved v key to) ≡ true
  ready_moved v key cursor to there fits ready =
      let now = len_insert v.control.cursors key to in
      let was = len_some v.control.cursors key cursor there in
      let less = shorter v key to in
      grind (arith, common_steps, now, was, less, fits, ready)

  -- ---- a send is told once
  told_moved : (w : View T) (key to : ℕ) → (sends_are_ready w ≡ true → sends_are_ready (moved w key to) ≡ true) → after (tell_if_ready w) key to ≡ after w key to
  told_moved w key to stays =
      let told : View T = record w { control = tell_a_sender w.control } in
      test_is (λ (x : View T). after x key to ≡ after w key to) (sends_are_ready w) told w
      (λ ready. told_already (moved told key to) (λ _ some. omega arith)
      ∙ sym (ap (λ b. cond b (record (moved w key to) { control = tell_a_sender (moved w key to).control }) (moved w key to)) (stays ready)))
      (λ _. refl)

  pub after_twice : (v : View T) (key from to : ℕ) → length v.queue ≤ v.control.capacity → from ≤ to → after (after v key from) key to ≡ after v key to
  after_twice v key from to fits rises =
      let less = shorter v key from in
      told_moved (moved v key from) key to (ready_moved (moved v key from) key from to (inserted v.control.cursors key from) (omega (arith, less, fits)))
      ∙ ap tell_if_ready (moved_twice v key from to rises)

  -- ---- what stays
  pub front_reached : (v : View T) (key to : ℕ) → v.front ≤ to → (moved v key to).front ≤ to
  front_reached v key to reached = let own = least-le-cursor (v.end + 0) (insert v.control.cursors key to) key to (inserted v.control.cursors key to) in omega (arith, own, reached)

  -- the messages from there on are kept
  pub kept_moved : (v : View T) (key to number : ℕ) (msg : T) → v.front ≤ to → to ≤ number → kept_at v number ≡ Some msg → kept_at (moved v key to) number ≡ Some msg
  kept_moved v key to number msg reached from at =
      let w = moved v key to in
      let low = front_reached v key to reached in
      let index : w.front - v.front + (number - w.front) ≡ number - v.front = omega (arith, low, from) in
      slice_get-drop (w.front - v.front) (number - w.front) (v.queue ++ []) ∙ ap (λ items. slice_get items (w.front - v.front + (number - w.front))) (append-nil v.queue) ∙ ap (slice_get v.queue) index ∙ at
