-- A send of a whole list keeps the channel valid. Sends, and calls that count senders, leave the
-- cursors and the capacity, and open no channel.
use Rattle.std.proofs.Common.{◌≡◌, inl, ℕ, ◌+◌, ◌-◌, ◌^◌, ◌<◌, ◌≤◌, true, false, cond, List, [], ◌∷◌, length, refl, subst, arith, length-append, length-drop, is_ok, ◌==◌, ◌||◌, not, Option, Some, None}
use Rattle.std.proofs.lemmas.Grind.{common_steps}
use Rattle.std.specs.Option.{option_map_or}
use Rattle.bcast_model.specs.Words.{has_no_receiver, Effect, sets, IsValidView, free_room}
use Rattle.bcast_model.specs.Words.{try_broadcast_all_reply, accept_all, offer_all, View}
use Rattle.bcast_model.specs.Words.{Control, close_if_deserted, has_place}
use Rattle.bcast_model.specs.Words.{place_waits, sends_are_ready, try_broadcast_reply, accept}
use Rattle.bcast_model.specs.Words.{offer, with_place_answered, poll_send, has_next, new_sender}
use Rattle.bcast_model.specs.Words.{clone_inactive, drop_sender, drop_inactive, with_place}
use Rattle.bcast_model.proofs.Cases.{stays-accepting, test_is, Stays, kept, stays-deserted}
use Rattle.bcast_model.proofs.Lift.{KeepsValid}
use Rattle.bcast_model.proofs.Kept.{kept_idle, keeps_sets}
use Rattle.bcast_model.proofs.Sends.{attended_accepting, sound_accepting}

-- ---- what holds of both outcomes
module _ {T : Type 0} where
  -- a list is refused, or is accepted: without a message, or with a last one
  pub offer_all_is : (P : Effect T → Type 0) (v : View T) (msgs : List T) → P (sets v.control)
      → ((msg : T) (rest : List T) → msgs ≡ msg ∷ rest → is_ok (try_broadcast_all_reply v msgs) ≡ true → P (accept_all v (msg ∷ rest))) → P (offer_all v msgs)
  offer_all_is P v msgs idle accepted = test_is P (is_ok (try_broadcast_all_reply v msgs)) (accept_all v msgs) (sets v.control) (by_list msgs refl) (λ _. idle)
    where
      by_list : (list : List T) → msgs ≡ list → is_ok (try_broadcast_all_reply v msgs) ≡ true → P (accept_all v list)
      by_list [] is e = idle
      by_list (msg ∷ rest) is e = accepted msg rest is e

  -- ---- what is accepted
  -- a list that is not refused finds an open channel with a receiver, and room
  pub record IsRoomy (v : View T) (count : ℕ) : Type 0 where
    pub opened : v.control.closed ≡ false
    pub someone : has_no_receiver v.control ≡ false
    pub room : count ≤ v.control.capacity - length v.queue
    pub numbers : count ≤ 18446744073709551615 - v.end

  pub roomy : (v : View T) (msgs : List T) → is_ok (try_broadcast_all_reply v msgs) ≡ true → IsRoomy v (length msgs)
  roomy v msgs accepted =
      let fits : length msgs ≤ free_room v = grind (arith, common_steps, accepted) in
      record { opened = grind (arith, common_steps, accepted); someone = grind (arith, common_steps, accepted); room = omega (arith, fits); numbers = omega (arith, fits) }

  module _ (v : View T) (valid : IsValidView v) where
    keeps_accept_all : (msg : T) (rest : List T) → IsRoomy v (length (msg ∷ rest)) → KeepsValid v (accept_all v (msg ∷ rest))
    keeps_accept_all msg rest roomy =
        let idle = kept_idle v valid in
        let end : ℕ = v.end + length (msg ∷ rest) in
        let below : end < 2 ^ 64 = omega (arith, roomy.numbers, valid.control.open_end roomy.opened) in
        let same = (stays-accepting v.control end).1 in
        record {
          floor = inl refl;
          fits = rw same (simp (length-drop, length-append) (omega (arith, roomy.room, valid.fits)));
          sound = sound_accepting v v.control v.end end (omega arith) below idle.sound;
          attended = attended_accepting v.control v.end end below idle.attended;
        }

    pub keeps_offer_all : (msgs : List T) → KeepsValid v (offer_all v msgs)
    keeps_offer_all msgs = offer_all_is (KeepsValid v) v msgs (keeps_sets (kept_idle v valid))
        (λ msg rest is e. keeps_accept_all msg rest (subst (λ list. IsRoomy v (length list)) is (roomy v msgs e)))

-- ---- the parts of a call
module _ (c : Control) where
  pub stays-placed : (place : Option ℕ) → Stays c (option_map_or (with_place c) place c)
  stays-placed None = kept c
  stays-placed (Some place) = kept c

  pub stays-new_sender : Stays c (new_sender c)
  stays-new_sender = test_is (Stays c) (has_next c.senders) (record c { senders = c.senders + 1 }) c (λ _. kept c) (λ _. kept c)

  pub stays-clone_inactive : Stays c (clone_inactive c)
  stays-clone_inactive = test_is (Stays c) ((c.inactive == 0) || not (has_next c.inactive)) c (record c { inactive = c.inactive + 1 }) (λ _. kept c) (λ _. kept c)

pub stays-drop_sender : (c : Control) → Stays c (drop_sender c)
stays-drop_sender c = let now : Control = record c { senders = c.senders - 1 } in test_is (Stays c) (c.senders == 0) c (close_if_deserted now) (λ _. kept c) (λ _. stays-deserted now)

pub stays-drop_inactive : (c : Control) → Stays c (drop_inactive c)
stays-drop_inactive c = let now : Control = record c { inactive = c.inactive - 1 } in test_is (Stays c) (c.inactive == 0) c (close_if_deserted now) (λ _. kept c) (λ _. stays-deserted now)

module _ {T : Type 0} (v : View T) where
  abbrev pub StaysBy : Effect T → Type 0
  StaysBy e = Stays v.control e.control

  pub stays-offer : (msg : T) → StaysBy (offer v msg)
  stays-offer msg = test_is StaysBy (is_ok (try_broadcast_reply v msg)) (accept v msg) (sets v.control) (λ _. stays-accepting v.control (v.end + 1)) (λ _. kept v.control)

  pub stays-offer_all : (msgs : List T) → StaysBy (offer_all v msgs)
  stays-offer_all msgs = offer_all_is StaysBy v msgs (kept v.control) (λ msg rest is e. stays-accepting v.control (v.end + length (msg ∷ rest)))

  pub stays-poll_send : (place : ℕ) (msg : T) → StaysBy (poll_send v place msg)
  stays-poll_send place msg =
      let waits : Effect T = sets (place_waits v.control place) in
      test_is StaysBy (has_place v.control place) (cond (sends_are_ready v) (with_place_answered (offer v msg) place) waits) (sets v.control)
      (λ _. test_is StaysBy (sends_are_ready v) (with_place_answered (offer v msg) place) waits (λ _. stays-offer msg) (λ _. kept v.control)) (λ _. kept v.control)
