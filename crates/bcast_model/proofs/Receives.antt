-- A receive and a receive poll keep the channel valid; a poll that waits had read all messages.
use Rattle.std.proofs.Common.{◌≡◌, inl, inr, ℕ, ◌+◌, ◌-◌, ◌<◌, ◌≤◌, Bool, true, false, length, max, Option, Some, None, Err, slice_get, refl, sym, ap, ◌∙◌, arith}
use Rattle.std.proofs.lemmas.Grind.{common_steps}
use Rattle.std.proofs.lemmas.Bool.{cases_lt}
use Rattle.std.proofs.lemmas.Option.{same_Some, slice_get_past}
use Rattle.std.specs.Cmp.{nat_cmp_total}
use Rattle.std.specs.FinMap.{get, insert, len, len-insert}
use Rattle.bcast_model.specs.declared.error.TryRecvError.TheVariants as unread
use Rattle.bcast_model.specs.Words.{Reply, consume, wait_again, Pair, same_pair, Control}
use Rattle.bcast_model.specs.Words.{with_cursor, pair_waits, pair_answered, receive, listens, skipped_to, recv_reply}
use Rattle.bcast_model.specs.Words.{is_empty_reply, receive_poll, try_recv_reply, is_out_of_memory}
use Rattle.bcast_model.specs.Words.{View, sets, set_unless_refused, IsValidView}
use Rattle.bcast_model.proofs.Cases.{test_is, receive_is, lagging_reply, passed_reply}
use Rattle.bcast_model.proofs.Waiting.{receives_consumed, receives_waiting}
use Rattle.bcast_model.proofs.Sound.{IsNoLower, IsKept}
use Rattle.bcast_model.proofs.Views.{lagging}
use Rattle.bcast_model.proofs.DeliveryLists.{past_end}
use Rattle.bcast_model.proofs.Lift.{KeepsValid}
use Rattle.bcast_model.proofs.Kept.{kept_idle, kept_receives, kept_cursor, keeps_sets}

-- a receive that finds nothing, in an open channel whose messages were all read
pub record IsEmptyAt {T : Type 0} (v : View T) (cursor : ℕ) : Type 0 where
  pub kept : v.front ≤ cursor
  pub read : length v.queue ≤ cursor - v.front
  pub is_open : v.control.closed ≡ false

module _ {T : Type 0} where
  found_none : (closed : Bool) (o : Option T) → is_empty_reply (recv_reply closed o) ≡ true → (o ≡ None) × (closed ≡ false)
  found_none closed (Some msg) e = cc
  found_none true None e = cc
  found_none false None e = (refl, refl)

  pub empty_at : (v : View T) (cursor : ℕ) → is_empty_reply (try_recv_reply v (Some cursor)) ≡ true → IsEmptyAt v cursor
  empty_at v cursor e = elim (cases_lt cursor v.front) [
    | inl lags ↦ (let some = sym (ap is_empty_reply (lagging_reply v cursor lags)) ∙ e in cc)
    | inr passed ↦ (let f = found_none v.control.closed (slice_get v.queue (cursor - v.front)) (sym (ap is_empty_reply (passed_reply v cursor passed)) ∙ e) in record { kept = passed; read = past_end v.queue (cursor - v.front) f.0; is_open = f.1 })
  ]

  -- a receiver that has read all messages of an open channel finds nothing
  pub empty_at_end : (v : View T) → IsValidView v → v.control.closed ≡ false → try_recv_reply v (Some v.end) ≡ Err unread.Empty
  empty_at_end v valid is_open =
      let none : slice_get v.queue (v.end - v.front) ≡ None = slice_get_past v.queue (v.end - v.front) (omega (arith, valid.end)) in
      passed_reply v v.end valid.high ∙ rw (none, is_open) refl

  module _ (v : View T) (valid : IsValidView v) where
    kept_moved : (key cursor to : ℕ) → get v.control.cursors key ≡ Some cursor → cursor < v.end → to ≤ v.end → IsNoLower v to → IsKept v (with_cursor v.control key to)
    kept_moved key cursor to e below high low =
        let size = len-insert nat_cmp_total v.control.cursors key to in
        let n : len (insert v.control.cursors key to) ≡ len v.control.cursors = grind (arith, common_steps, size, e) in
        kept_cursor v v.control key to high low (λ f. let same = same_Some cursor v.end (sym e ∙ f) in omega arith) (omega (arith, valid.control.receivers_fit)) (kept_idle v valid)

    -- the receiver is at this cursor, and starts there or after it
    kept_from : (key cursor start : ℕ) → get v.control.cursors key ≡ Some cursor → cursor ≤ start → IsKept v (receive v key (Some start))
    kept_from key cursor start e after = receive_is v (IsKept v) key start
        (λ lags. kept_moved key cursor v.front e (omega (arith, valid.high)) valid.high (inl (omega arith)))
        (λ _ below. kept_moved key cursor (start + 1) e (omega arith) (omega arith) (inr (key, cursor, e, omega arith)))
        (λ _ _. kept_idle v valid)

    pub kept_receive : (key : ℕ) (cursor : Option ℕ) → get v.control.cursors key ≡ cursor → IsKept v (receive v key cursor)
    kept_receive key None e = kept_idle v valid
    kept_receive key (Some cursor) e = kept_from key cursor cursor e (omega arith)

    -- a receiver that found nothing stays, and waits; any other waits no more
    poll_from : (pair : Pair) (cursor start : ℕ) → get v.control.cursors pair.0 ≡ Some cursor → cursor ≤ start → (v.end ≤ start → cursor ≡ v.end)
        → IsKept v (receive_poll v pair (Some start))
    poll_from pair cursor start e after all_read =
        let c : Control = receive v pair.0 (Some start) in
        test_is (IsKept v) (is_empty_reply (try_recv_reply v (Some start))) (pair_waits c pair) (pair_answered c pair)
        (λ none.
        let at = empty_at v start none in
        let idle = kept_idle v valid in
        let past : v.end ≤ start = omega (arith, valid.end, at.kept, at.read) in
        receive_is v (λ c. IsKept v (pair_waits c pair)) pair.0 start
        (λ lags. absurd (omega (arith, at.kept)))
        (λ _ below. absurd (omega arith))
        (λ _ _. kept_receives v v.control (wait_again same_pair pair v.control.waiting_receives)
        (receives_waiting v.control.cursors v.control.closed v.end v.control.waiting_receives pair (e ∙ ap (λ n. Some n) (all_read past), at.is_open) idle.sound.receives) idle))
        (λ some.
        let moved : IsKept v c = kept_from pair.0 cursor start e after in
        kept_receives v c (consume same_pair pair c.waiting_receives) (receives_consumed c.cursors c.closed v.end c.waiting_receives pair moved.sound.receives) moved)

    poll_gone : (pair : Pair) → IsKept v (listens v.control pair false)
    poll_gone pair =
        let idle = kept_idle v valid in
        kept_receives v v.control (consume same_pair pair v.control.waiting_receives) (receives_consumed v.control.cursors v.control.closed v.end v.control.waiting_receives pair idle.sound.receives) idle

    pub kept_poll : (pair : Pair) (cursor : Option ℕ) → get v.control.cursors pair.0 ≡ cursor → IsKept v (receive_poll v pair cursor)
    kept_poll pair None e = poll_gone pair
    kept_poll pair (Some cursor) e = let r = valid.reach pair.0 cursor e in poll_from pair cursor cursor e (omega arith) (λ past. omega arith)

    -- the stream skips what was dropped, and finds a message then
    pub kept_poll_next : (pair : Pair) (cursor : Option ℕ) → get v.control.cursors pair.0 ≡ cursor
        → IsKept v (receive_poll v pair (skipped_to v.front cursor))
    kept_poll_next pair None e = poll_gone pair
    kept_poll_next pair (Some cursor) e =
        let r = valid.reach pair.0 cursor e in
        poll_from pair cursor (max cursor v.front) e (omega arith) (λ past. elim (cases_lt cursor v.front) [
          | inl lags ↦ (let n : v.front < v.end = lagging v valid pair.0 cursor e lags in absurd (omega arith))
          | inr here ↦ omega arith
        ])

    pub keeps_unless : {c : Control} (r : Reply T) → IsKept v c → KeepsValid v (set_unless_refused v r c)
    keeps_unless {c = c} r kept = test_is (KeepsValid v) (is_out_of_memory r) (sets v.control) (sets c) (λ _. keeps_sets (kept_idle v valid)) (λ _. keeps_sets kept)
