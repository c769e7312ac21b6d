-- A call that makes a handle, drops one, or changes a setting keeps the channel valid.
use Rattle.std.proofs.Common.{◌≡◌, ◌⊎◌, inl, inr, ℕ, ◌+◌, ◌-◌, ◌^◌, ◌<◌, ◌≤◌, ◌==◌, ◌||◌, Bool, not, [], ◌++◌, length, max, drop, Option, Some, None, Result, Ok, Err, nat_lt, refl, sym, ◌∙◌, arith, length-append, length-drop}
use Rattle.std.proofs.lemmas.Grind.{common_steps}
use Rattle.std.proofs.lemmas.Option.{none-some}
use Rattle.std.specs.FinMap.{get, insert, len, values}
use Rattle.std.specs.Option.{option_map_or}
use Rattle.bcast_model.specs.Words.{HandleError, Reply, Control, with_cursor, has_next}
use Rattle.bcast_model.specs.Words.{clone_receiver, new_sender, clone_inactive, least, IsMadeFrom}
use Rattle.bcast_model.specs.Words.{chosen_id, View, resize, IsValidView, abandon, Pair, same_pair}
use Rattle.bcast_model.specs.Words.{close_if_deserted, pair_ended, without_receiver, drop_receiver}
use Rattle.bcast_model.specs.Words.{deactivate, drop_sender, drop_inactive}
use Rattle.bcast_model.proofs.Least.{len_insert}
use Rattle.bcast_model.proofs.Cases.{test_is, made_is}
use Rattle.bcast_model.proofs.Sound.{IsNoLower, IsKept, sound_counts, IsSound, sound_without}
use Rattle.bcast_model.proofs.Lift.{KeepsValid}
use Rattle.bcast_model.proofs.Kept.{kept_idle, kept_cursor, kept_counts, kept_deserted, kept_receives}
use Rattle.bcast_model.proofs.Waiting.{receives_abandoned}

module _ {T : Type 0} where
  -- a new receiver under the key that a reply gives, if any; and one inactive receiver fewer
  abbrev pub with_new : View T → Option ℕ → Control
  with_new v id = option_map_or (λ key. with_cursor v.control key v.end) id v.control

  abbrev pub with_activated : View T → Option ℕ → Control
  with_activated v id = option_map_or (λ key. record (with_cursor v.control key v.end) { inactive = v.control.inactive - 1 }) id v.control

  module _ (v : View T) (valid : IsValidView v) where
    -- ---- receivers
    made_at : (key cursor : ℕ) → get v.control.cursors key ≡ None → cursor ≤ v.end → IsNoLower v cursor → len (insert v.control.cursors key cursor) < 2 ^ 64 → IsKept v (with_cursor v.control key cursor)
    made_at key cursor free high low few = kept_cursor v v.control key cursor high low (λ e. none-some v.end (sym free ∙ e)) few (kept_idle v valid)

    pub kept_new_receiver : (key : ℕ) → get v.control.cursors key ≡ None → len (with_new v (Some key)).cursors < 2 ^ 64 → IsKept v (with_new v (Some key))
    kept_new_receiver key free few = made_at key v.end free (omega arith) (inl valid.high) few

    pub kept_activate : (key : ℕ) → get v.control.cursors key ≡ None → len (with_activated v (Some key)).cursors < 2 ^ 64 → IsKept v (with_activated v (Some key))
    kept_activate key free few =
        let c : Control = with_cursor v.control key v.end in
        kept_counts v c c.senders (c.inactive - 1) c.overflow c.await_active valid.control.senders_fit (omega (arith, valid.control.inactive_fit)) valid.control.sender (λ _. let n = len_insert v.control.cursors key v.end in omega arith) (kept_new_receiver key free few)

    pub kept_clone_receiver : (other : ℕ) (cursor : Option ℕ) (key : ℕ) → get v.control.cursors other ≡ cursor → get v.control.cursors key ≡ None → len (clone_receiver v.control cursor (Some key)).cursors < 2 ^ 64
        → IsKept v (clone_receiver v.control cursor (Some key))
    kept_clone_receiver other None key e free few = kept_idle v valid
    kept_clone_receiver other (Some cursor) key e free few = made_at key cursor free (valid.reach other cursor e) (inr (other, cursor, e, omega arith)) few

    -- the count of receivers fits if one was made
    pub kept_made : (of : Option ℕ → Control) (there : Bool) (spelt : Result ℕ HandleError → Reply T) (r : Reply T) → IsMadeFrom there v.control.cursors spelt r
        → ((key : ℕ) → get v.control.cursors key ≡ None → len (of (chosen_id (spelt (Ok key)))).cursors < 2 ^ 64 → IsKept v (of (chosen_id (spelt (Ok key))))) → ((error : HandleError) → IsKept v (of (chosen_id (spelt (Err error)))))
        → len (of (chosen_id r)).cursors < 2 ^ 64 → IsKept v (of (chosen_id r))
    kept_made of there spelt r legal made refused = made_is (λ r. len (of (chosen_id r)).cursors < 2 ^ 64 → IsKept v (of (chosen_id r))) there v.control.cursors spelt r legal made (λ error _. refused error)

    -- ---- senders and inactive receivers
    pub kept_new_sender : IsKept v (new_sender v.control)
    kept_new_sender = let c : Control = v.control in test_is (IsKept v) (has_next c.senders) (record c { senders = c.senders + 1 }) c
        (λ e. kept_counts v c (c.senders + 1) c.inactive c.overflow c.await_active (grind (arith, common_steps, e)) valid.control.inactive_fit (λ _. omega arith) valid.control.receiver (kept_idle v valid))
        (λ _. kept_idle v valid)

    pub kept_clone_inactive : IsKept v (clone_inactive v.control)
    kept_clone_inactive = let c : Control = v.control in test_is (IsKept v) ((c.inactive == 0) || not (has_next c.inactive)) c (record c { inactive = c.inactive + 1 })
        (λ _. kept_idle v valid)
        (λ e. kept_counts v c c.senders (c.inactive + 1) c.overflow c.await_active valid.control.senders_fit (grind (arith, common_steps, e)) valid.control.sender (λ _. omega arith) (kept_idle v valid))

    -- ---- settings
    pub kept_settings : (overflow await_active : Bool) → IsKept v (record v.control { overflow = overflow; await_active = await_active })
    kept_settings overflow await_active = kept_counts v v.control v.control.senders v.control.inactive overflow await_active valid.control.senders_fit valid.control.inactive_fit valid.control.sender valid.control.receiver (kept_idle v valid)

    pub keeps_resize : (n : ℕ) → 1 ≤ n → n < 2 ^ 64 → KeepsValid v (resize v n)
    keeps_resize n some few =
        let e : v.end + 0 ≡ v.end = omega arith in
        let idle = kept_idle v valid in
        let c : Control = v.control in
        let sizes = idle.sound.sizes in
        record {
          floor = test_is (λ floor. (floor ≡ 0) ⊎ (floor < v.end + 0)) (nat_lt n (length v.queue)) (v.end - n) 0
              (λ t. let fewer : n < length v.queue = grind (arith, common_steps, t) in inr (omega (arith, valid.end)))
              (λ _. inl refl);
          fits = test_is (λ floor. length (drop (max (max v.front floor) (least (v.end + 0) (values c.cursors)) - v.front) (v.queue ++ [])) ≤ n) (nat_lt n (length v.queue)) (v.end - n) 0
              (λ t. let fewer : n < length v.queue = grind (arith, common_steps, t) in simp (length-drop, length-append) (omega (arith, valid.end)))
              (λ t. let enough : length v.queue ≤ n = grind (arith, common_steps, t) in simp (length-drop, length-append) (omega (arith, valid.end)));
          sound = rw e (sound_counts v v.end c n (max c.room n) c.senders c.inactive c.overflow c.await_active
              (record { positive = some; within = omega arith; room_fits = omega (arith, sizes.room_fits); receivers_fit = sizes.receivers_fit; senders_fit = sizes.senders_fit; inactive_fit = sizes.inactive_fit; end_fits = sizes.end_fits }) idle.sound);
          attended = rw e idle.attended;
        }

module _ {T : Type 0} (v : View T) (valid : IsValidView v) where
  pub kept_pair_dropped : (pair : Pair) → IsKept v (pair_ended v.control pair)
  kept_pair_dropped pair =
      let idle = kept_idle v valid in
      kept_receives v v.control (abandon same_pair pair v.control.waiting_receives) (receives_abandoned v.control.cursors v.control.closed v.end v.control.waiting_receives pair idle.sound.receives) idle

  -- ---- receivers
  left : (key : ℕ) → IsSound v v.end (without_receiver v.control key)
  left key = sound_without v v.end v.control key (kept_idle v valid).sound

  pub kept_drop_receiver : (key : ℕ) (cursor : Option ℕ) → IsKept v (drop_receiver v.control key cursor)
  kept_drop_receiver key None = kept_idle v valid
  kept_drop_receiver key (Some cursor) = kept_deserted v (without_receiver v.control key) (left key) valid.fits valid.control.open_end

  -- the receiver leaves, and one more is inactive
  inactive_instead : (key : ℕ) → v.control.inactive + 1 < 2 ^ 64 → IsKept v (record (without_receiver v.control key) { inactive = v.control.inactive + 1 })
  inactive_instead key few =
      let s = left key in
      let sizes = s.sizes in
      let c : Control = without_receiver v.control key in
      record {
        sound = sound_counts v v.end c c.capacity c.room c.senders (v.control.inactive + 1) c.overflow c.await_active
            (record { positive = sizes.positive; within = sizes.within; room_fits = sizes.room_fits; receivers_fit = sizes.receivers_fit; senders_fit = sizes.senders_fit; inactive_fit = few; end_fits = sizes.end_fits }) s;
        attended = record { sender = valid.control.sender; receiver = λ _. omega arith; open_end = valid.control.open_end };
        fits = valid.fits;
      }

  pub kept_deactivate : (key : ℕ) (cursor : Option ℕ) → IsKept v (deactivate v.control key cursor)
  kept_deactivate key None = kept_idle v valid
  kept_deactivate key (Some cursor) = test_is (IsKept v) (has_next v.control.inactive) (record (without_receiver v.control key) { inactive = v.control.inactive + 1 }) v.control
      (λ e. inactive_instead key (grind (arith, common_steps, e)))
      (λ _. kept_idle v valid)

  -- ---- counts
  -- fewer senders or inactive receivers
  deserted : (senders inactive : ℕ) → senders ≤ v.control.senders → inactive ≤ v.control.inactive → IsKept v (close_if_deserted (record v.control { senders = senders; inactive = inactive }))
  deserted senders inactive few less =
      let idle = kept_idle v valid in
      let sizes = idle.sound.sizes in
      let c : Control = v.control in
      kept_deserted v (record c { senders = senders; inactive = inactive })
      (sound_counts v v.end c c.capacity c.room senders inactive c.overflow c.await_active
      (record { positive = sizes.positive; within = sizes.within; room_fits = sizes.room_fits; receivers_fit = sizes.receivers_fit; senders_fit = omega (arith, sizes.senders_fit); inactive_fit = omega (arith, sizes.inactive_fit); end_fits = sizes.end_fits }) idle.sound)
      valid.fits valid.control.open_end

  pub kept_drop_sender : IsKept v (drop_sender v.control)
  kept_drop_sender = test_is (IsKept v) (v.control.senders == 0) v.control (close_if_deserted (record v.control { senders = v.control.senders - 1 }))
      (λ _. kept_idle v valid)
      (λ _. deserted (v.control.senders - 1) v.control.inactive (omega arith) (omega arith))

  pub kept_drop_inactive : IsKept v (drop_inactive v.control)
  kept_drop_inactive = test_is (IsKept v) (v.control.inactive == 0) v.control (close_if_deserted (record v.control { inactive = v.control.inactive - 1 }))
      (λ _. kept_idle v valid)
      (λ _. deserted v.control.senders (v.control.inactive - 1) (omega arith) (omega arith))
