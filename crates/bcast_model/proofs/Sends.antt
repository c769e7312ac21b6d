-- A send, and each step of a pending one, keeps the channel valid.
use Rattle.std.proofs.Common.{◌≡◌, ◌≢◌, ◌⊎◌, inl, inr, ℕ, ◌+◌, ◌-◌, ◌^◌, ◌<◌, ◌≤◌, true, false, cond, [], ◌∷◌, ◌++◌, length, max, drop, Option, Some, None, refl, arith, length-append, length-drop, is_ok}
use Rattle.std.proofs.lemmas.Grind.{common_steps}
use Rattle.std.specs.FinMap.{len, values}
use Rattle.std.specs.FinSet as set
use Rattle.std.specs.Option.{option_map_or}
use Rattle.bcast_model.specs.Words.{consume, abandon, wait_again, same_place, same_pair, Control}
use Rattle.bcast_model.specs.Words.{tell_receivers, accepting, has_place}
use Rattle.bcast_model.specs.Words.{place_ended, place_waits, with_place, accept}
use Rattle.bcast_model.specs.Words.{try_broadcast_reply, offer, with_place_answered}
use Rattle.bcast_model.specs.Words.{poll_send, least, View, is_full, sends_are_ready, sets, Effect}
use Rattle.bcast_model.specs.Words.{IsValidView}
use Rattle.bcast_model.proofs.Cases.{test_is, close_is, accepting_is, stays-accepting}
use Rattle.bcast_model.proofs.Listeners.{fit_all_told}
use Rattle.bcast_model.proofs.Waiting.{test_pair, sends_inserted, sends_consumed, sends_abandoned, sends_waiting}
use Rattle.bcast_model.proofs.Sound.{IsAttended, attended_closed, IsSound, IsKept, sound_close, sound_sends}
use Rattle.bcast_model.proofs.Lift.{KeepsValid}
use Rattle.bcast_model.proofs.Kept.{kept_idle, kept_sends, keeps_sets}

-- ---- accepting
-- a channel that was closed by the last number needs no handles
pub attended_accepting : (c : Control) (old end : ℕ) → end < 2 ^ 64 → IsAttended c.closed c.senders (len c.cursors) c.inactive old
    → IsAttended (accepting c end).closed (accepting c end).senders (len (accepting c end).cursors) (accepting c end).inactive end
attended_accepting c old end below a = accepting_is (λ now. IsAttended now.closed now.senders (len now.cursors) now.inactive end) c end
    (close_is (λ now. IsAttended now.closed now.senders (len now.cursors) now.inactive end) (tell_receivers c) (λ e. attended_closed c.closed c.senders (len c.cursors) c.inactive end e) (λ _. attended_closed true c.senders (len c.cursors) c.inactive end refl))
    (λ e. record { sender = a.sender; receiver = a.receiver; open_end = λ _. grind (arith, common_steps, e, below) })

module _ {T : Type 0} where
  -- all waiting receivers are told, and may be under the new end
  pub sound_accepting : (v : View T) (c : Control) (old end : ℕ) → old ≤ end → end < 2 ^ 64 → IsSound v old c → IsSound v end (accepting c end)
  sound_accepting v c old end grows below s =
      let sizes = s.sizes in
      let told : IsSound v end (tell_receivers c) = record {
        cursors = λ key cursor e. (let r = s.cursors key cursor e in (omega (arith, r.0), r.1));
        sizes = record { positive = sizes.positive; within = sizes.within; room_fits = sizes.room_fits; receivers_fit = sizes.receivers_fit; senders_fit = sizes.senders_fit; inactive_fit = sizes.inactive_fit; end_fits = below };
        sends = s.sends;
        receives = fit_all_told same_pair test_pair c.waiting_receives s.receives;
      } in
      accepting_is (IsSound v end) c end (sound_close v end (tell_receivers c) told) (λ _. told)

  -- a send that is not refused finds an open channel
  open_offer : (v : View T) (msg : T) → is_ok (try_broadcast_reply v msg) ≡ true → v.control.closed ≡ false
  open_offer v msg accepted = grind (arith, common_steps, accepted)

  module _ (v : View T) (valid : IsValidView v) where
    keeps_accept : (msg : T) → v.control.closed ≡ false → KeepsValid v (accept v msg)
    keeps_accept msg open_now =
        let idle = kept_idle v valid in
        let below : v.end + 1 < 2 ^ 64 = valid.control.open_end open_now in
        let same = (stays-accepting v.control (v.end + 1)).1 in
        record {
          floor = test_is (λ n. (n ≡ 0) ⊎ (n < v.end + 1)) (is_full v) (v.front + 1) 0
              (λ e. let full : length v.queue ≡ v.control.capacity = grind (arith, common_steps, e) in inr (omega (arith, full, valid.control.capacity, valid.end)))
              (λ _. inl refl);
          fits = rw same (test_is (λ n. length (drop (max (max v.front n) (least (v.end + 1) (values (accepting v.control (v.end + 1)).cursors)) - v.front) (v.queue ++ msg ∷ [])) ≤ v.control.capacity) (is_full v) (v.front + 1) 0
              (λ e. let full : length v.queue ≡ v.control.capacity = grind (arith, common_steps, e) in simp (length-drop, length-append) (omega arith))
              (λ e. let other : length v.queue ≢ v.control.capacity = grind (arith, common_steps, e) in simp (length-drop, length-append) (omega (arith, valid.fits))));
          sound = sound_accepting v v.control v.end (v.end + 1) (omega arith) below idle.sound;
          attended = attended_accepting v.control v.end (v.end + 1) below idle.attended;
        }

    pub keeps_offer : (msg : T) → KeepsValid v (offer v msg)
    keeps_offer msg = test_is (KeepsValid v) (is_ok (try_broadcast_reply v msg)) (accept v msg) (sets v.control) (λ e. keeps_accept msg (open_offer v msg e)) (λ _. keeps_sets (kept_idle v valid))

    -- ---- pending sends
    pub kept_begin_send : (place : Option ℕ) → IsKept v (option_map_or (with_place v.control) place v.control)
    kept_begin_send None = kept_idle v valid
    kept_begin_send (Some place) = let idle = kept_idle v valid in kept_sends v v.control v.control.waiting_sends (set.insert v.control.places place) (sends_inserted v.control.places place v.control.waiting_sends idle.sound.sends) idle

    pub kept_end_send : (place : ℕ) → IsKept v (place_ended v.control place)
    kept_end_send place =
        let idle = kept_idle v valid in
        kept_sends v v.control (abandon same_place place v.control.waiting_sends) (set.remove v.control.places place) (sends_abandoned v.control.places place v.control.waiting_sends idle.sound.sends) idle

    kept_waits : (place : ℕ) → has_place v.control place ≡ true → IsKept v (place_waits v.control place)
    kept_waits place there =
        let idle = kept_idle v valid in
        kept_sends v v.control (wait_again same_place place v.control.waiting_sends) v.control.places (sends_waiting v.control.places place v.control.waiting_sends there idle.sound.sends) idle

    -- a send that is answered waits no more
    keeps_answered : (place : ℕ) (msg : T) → KeepsValid v (with_place_answered (offer v msg) place)
    keeps_answered place msg =
        let f = keeps_offer msg in
        let e = offer v msg in
        record {
          floor = f.floor;
          fits = f.fits;
          sound = sound_sends v (v.end + length e.accepted) e.control (consume same_place place e.control.waiting_sends) (set.remove e.control.places place) (sends_consumed e.control.places place e.control.waiting_sends f.sound.sends) f.sound;
          attended = f.attended;
        }

    pub keeps_poll_send : (place : ℕ) (msg : T) → KeepsValid v (poll_send v place msg)
    keeps_poll_send place msg =
        let waits : Effect T = sets (place_waits v.control place) in
        test_is (KeepsValid v) (has_place v.control place) (cond (sends_are_ready v) (with_place_answered (offer v msg) place) waits) (sets v.control)
        (λ there. test_is (KeepsValid v) (sends_are_ready v) (with_place_answered (offer v msg) place) waits (λ _. keeps_answered place msg) (λ _. keeps_sets (kept_waits place there)))
        (λ _. keeps_sets (kept_idle v valid))
