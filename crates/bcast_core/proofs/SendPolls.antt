-- What a poll of a pending send does to the view.
use Rattle.std.proofs.Common.{◌≡◌, ℕ, Bool, true, false, cond, Result, Ok, Err, OnOk, OnErr, refl, sym, ap, ◌∙◌, arith}
use Rattle.std.proofs.lemmas.Bool.{not-false, not-true}
use Rattle.std.proofs.lemmas.Grind.{common_steps}
use Rattle.bcast_model.specs.declared.run.SendPoll.{SendPoll}
use Rattle.bcast_model.specs.declared.run.SendPoll.TheVariants as send
use Rattle.bcast_model.specs.declared.run.Call.TheVariants as call
use Rattle.bcast_model.specs.declared.run.Reply.TheVariants as reply
use Rattle.bcast_model.specs.Words.{has_place, place_answered, place_waits}
use Rattle.bcast_model.specs.Words.{tell_a_sender, offer, attempt_send_reply, poll_send, View}
use Rattle.bcast_model.specs.Words.{sends_are_ready, Answers, IsShown, must_wait, IsValidView, NoClone, sets}
use Rattle.bcast_model.specs.Words.{tell_if_ready, settle}
use Rattle.bcast_model.proofs.Polls.{attempt_waits}
use Rattle.bcast_core.proofs.Settle.{settle_stays, settle_same}
use Rattle.bcast_core.specs.Telling.{tell_news, is_accepted}
use Rattle.bcast_core.proofs.Tail.{ends, told_valid, valid_shown}

-- what follows from a value, and from an error
pub either : {A E P Q R : Type 0} (r : Result A E) → OnOk r P → OnErr r Q → (P → R) → (Q → R) → R
either (Ok a) p q f g = f p
either (Err e) p q f g = g q

module _ {T : Type 0} where
  -- whether an attempt must wait
  abbrev waits : SendPoll T → Bool
  waits sent = must_wait (reply.PollSend sent)

  pub is_refused : (v : View T) (msg again : T) → attempt_send_reply v msg ≡ send.Wait again → settle v (offer v msg) ≡ settle v (sets v.control)
  is_refused v msg again is = grind (arith, common_steps)

  -- an attempt that must wait changes nothing
  pub attempt_stays : (v mid : View T) (msg again : T) (sent : SendPoll T) → IsValidView v → sent ≡ attempt_send_reply v msg → tell_news (is_accepted sent) mid ≡ settle v (offer v msg) → sent ≡ send.Wait again → mid ≡ v
  attempt_stays v mid msg again sent valid reply effect is =
      sym (ap (λ r. tell_news (is_accepted r) mid) is) ∙ effect ∙ is_refused v msg again (sym reply ∙ is) ∙ settle_same v valid

  -- the call returns what it found, and leaves what is told then
  polled : {old was new : View T} {place : ℕ} {msg : T} {sent : SendPoll T} → was ≡ old → IsShown was → sent ≡ cond (has_place was.control place) (attempt_send_reply was msg) (send.Wait msg)
      → new ≡ tell_if_ready (settle was (poll_send was place msg)) → Answers NoClone old (call.PollSend place msg) (reply.PollSend sent) new
  polled {was = was} {place = place} {msg = msg} same shown is new_is = ends {mid = settle was (poll_send was place msg)} same shown tt (record { legal = ap reply.PollSend is; effect = refl }) new_is

  -- a poll of a place that is not in use changes nothing
  pub poll_unplaced : {old : View T} (was : View T) (place : ℕ) (msg : T) → was ≡ old → IsShown was → has_place was.control place ≡ false → Answers NoClone old (call.PollSend place msg) (reply.PollSend (send.Wait msg)) old
  poll_unplaced was place msg same shown none =
      let idle : was ≡ tell_if_ready (settle was (poll_send was place msg)) = grind (arith, common_steps, told_valid, settle_same, valid_shown shown) in
      polled same shown (rw none refl) (sym same ∙ idle)

  -- a poll that is answered frees its place last
  pub poll_answered : {old mid new : View T} (was : View T) (place : ℕ) (msg : T) (answer : _) → was ≡ old → IsShown was → has_place was.control place ≡ true → attempt_send_reply was msg ≡ send.Ready answer
      → mid ≡ settle was (offer was msg) → new ≡ tell_if_ready (record mid { control = place_answered mid.control place }) → Answers NoClone old (call.PollSend place msg) (reply.PollSend (send.Ready answer)) new
  poll_answered was place msg answer same shown there is mid_is new_is =
      let ready = not-false (sends_are_ready was) (sym (attempt_waits was msg) ∙ ap waits is) in
      polled same shown (rw there (sym is)) (new_is ∙ ap (λ (x : View T). tell_if_ready (record x { control = place_answered x.control place })) mid_is ∙ rw (there, ready) refl)

  -- a poll that is not answered waits, and no one is told
  pub poll_waits : {old mid new : View T} (was : View T) (place : ℕ) (msg again : T) → was ≡ old → IsShown was → has_place was.control place ≡ true → attempt_send_reply was msg ≡ send.Wait again
      → mid ≡ was → new ≡ record mid { control = place_waits mid.control place } → Answers NoClone old (call.PollSend place msg) (reply.PollSend (send.Wait again)) new
  poll_waits was place msg again same shown there is mid_is new_is =
      let blocked = not-true (sends_are_ready was) (sym (attempt_waits was msg) ∙ ap waits is) in
      let waiting : View T = record was { control = place_waits was.control place } in
      let settles : settle was (sets (place_waits was.control place)) ≡ settle was (poll_send was place msg) = rw (there, blocked) refl in
      polled same shown (rw there (sym is)) (new_is ∙ ap (λ (x : View T). record x { control = place_waits x.control place }) mid_is
      ∙ sym (ap (λ b. cond b (record waiting { control = tell_a_sender waiting.control }) waiting) blocked)
      ∙ ap tell_if_ready (sym (settle_stays was (place_waits was.control place) (valid_shown shown).low) ∙ settles))
