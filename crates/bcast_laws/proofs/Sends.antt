-- What a send adds, and what it hands back.
use Rattle.std.proofs.Common.{◌≡◌, ℕ, not, Bool, true, false, cond, List, [], ◌∷◌, ◌++◌, Option, Some, Result, Ok, Err, refl, sym, ap, ◌∙◌, append-nil, is_ok, arith}
use Rattle.std.proofs.lemmas.Grind.{common_steps}
use Rattle.std.proofs.lemmas.Option.{none-some}
use Rattle.bcast_model.specs.declared.error.TrySendError.{TrySendError}
use Rattle.bcast_model.specs.declared.error.TrySendError.TheVariants as unsent
use Rattle.bcast_model.specs.declared.run.SendPoll.{SendPoll}
use Rattle.bcast_model.specs.declared.run.SendPoll.TheVariants as send
use Rattle.bcast_model.specs.declared.run.Call.{Call}
use Rattle.bcast_model.specs.declared.run.Call.TheVariants as call
use Rattle.bcast_model.specs.declared.run.Reply.{Reply}
use Rattle.bcast_model.specs.declared.run.Reply.TheVariants as reply
use Rattle.bcast_model.specs.Words.{has_place, place_waits, View}
use Rattle.bcast_model.specs.Words.{sends_are_ready, Effect, sets, try_broadcast_reply}
use Rattle.bcast_model.specs.Words.{reply_to_attempt, attempt_send_reply, accept}
use Rattle.bcast_model.specs.Words.{offer, with_place_answered, poll_send}
use Rattle.bcast_model.specs.Words.{try_broadcast_all_reply, accept_all, effect, is_out_of_memory}
use Rattle.bcast_model.specs.Words.{History, view_of, next, Legal, must_wait}
use Rattle.bcast_laws.specs.Sends.{sent_by, messages_of, returned_by, returned_all_by, is_accepted}
use Rattle.bcast_model.proofs.Cases.{test_is}
use Rattle.bcast_model.proofs.Polls.{send_waits_unready}

pub apart : {A : Type 0} → false ≡ true → A
apart e = cc

module _ {T : Type 0} where
  -- the messages that are added, by whether they were accepted
  abbrev pub added : Bool → List T → List T
  added true msgs = msgs
  added false msgs = []

  none_added : (b : Bool) → [] ≡ added b []
  none_added true = refl
  none_added false = refl

  adds_try : (v : View T) (msg : T) (answer : Result (Option T) (TrySendError T)) → (cond (is_ok answer) (accept v msg) (sets v.control)).accepted ≡ added (is_accepted (reply.TryBroadcast answer)) (msg ∷ [])
  adds_try v msg (Ok back) = refl
  adds_try v msg (Err error) = refl

  adds_all : (v : View T) (msgs : List T) (answer : Result (Unit {0}) (TrySendError (List T))) → (cond (is_ok answer) (accept_all v msgs) (sets v.control)).accepted ≡ added (is_accepted {T = T} (reply.TryBroadcastAll answer)) msgs
  adds_all v [] (Ok done) = refl
  adds_all v (msg ∷ msgs) (Ok done) = refl
  adds_all v msgs (Err error) = refl

  adds_attempt : (v : View T) (msg : T) (await : Bool) (answer : Result (Option T) (TrySendError T)) → (cond (is_ok answer) (accept v msg) (sets v.control)).accepted ≡ added (is_accepted (reply.AttemptSend (reply_to_attempt await answer))) (msg ∷ [])
  adds_attempt v msg await (Ok back) = refl
  adds_attempt v msg await (Err (unsent.Full m)) = refl
  adds_attempt v msg true (Err (unsent.Inactive m)) = refl
  adds_attempt v msg await answer = refl

  -- a poll returns what an attempt does
  as_attempt : (answer : SendPoll T) → is_accepted (reply.PollSend answer) ≡ is_accepted (reply.AttemptSend answer)
  as_attempt (send.Ready (Ok back)) = refl
  as_attempt answer = refl

  waits_unaccepted : (answer : SendPoll T) → must_wait (reply.PollSend answer) ≡ true → is_accepted (reply.PollSend answer) ≡ false
  waits_unaccepted (send.Ready (Ok back)) e = apart e
  waits_unaccepted answer e = refl

  adds_poll : (is_clone : T → T → Type 0) (v : View T) (place : ℕ) (msg : T) (r : Reply T) → Legal is_clone v (call.PollSend place msg) r → (poll_send v place msg).accepted ≡ added (is_accepted r) (msg ∷ [])
  adds_poll is_clone v place msg r legal =
      let answer : SendPoll T = attempt_send_reply v msg in
      rw legal
      (elim (has_place v.control place) as (λ b. has_place v.control place ≡ b
      → (cond b (cond (sends_are_ready v) (with_place_answered (offer v msg) place) (sets (place_waits v.control place))) (sets v.control)).accepted
      ≡ added (is_accepted (reply.PollSend (cond b answer (send.Wait msg)))) (msg ∷ [])) [
        | true ↦ λ known. elim (sends_are_ready v) as (λ b. sends_are_ready v ≡ b
            → (cond b (with_place_answered (offer v msg) place) (sets (place_waits v.control place))).accepted ≡ added (is_accepted (reply.PollSend answer)) (msg ∷ [])) [
              | true ↦ λ _. adds_attempt v msg v.control.await_active (try_broadcast_reply v msg) ∙ ap (λ b. added b (msg ∷ [])) (sym (as_attempt answer))
              | false ↦ λ ready.
                  let waits : must_wait (reply.PollSend answer) ≡ true = send_waits_unready is_clone v place msg (reply.PollSend answer) known (sym (ap (λ b. reply.PollSend (cond b answer (send.Wait msg))) known)) ∙ ap not ready in
                  ap (λ b. added b (msg ∷ [])) (sym (waits_unaccepted answer waits))
            ] refl
        | false ↦ λ _. refl
      ] refl)

  adds_unless : (v : View T) (e : Effect T) (r : Reply T) → e.accepted ≡ [] → (cond (is_out_of_memory r) (sets v.control) e).accepted ≡ added (is_accepted r) []
  adds_unless v e r same = test_is (λ (e : Effect T). e.accepted ≡ []) (is_out_of_memory r) (sets v.control) e (λ _. refl) (λ _. same) ∙ none_added (is_accepted r)

  -- what a call adds
  adds : (is_clone : T → T → Type 0) (v : View T) (c : Call T) (r : Reply T) → Legal is_clone v c r → (effect v c r).accepted ≡ added (is_accepted r) (messages_of c)
  adds is_clone v (call.TryBroadcast msg) r legal = rw legal (adds_try v msg (try_broadcast_reply v msg))
  adds is_clone v (call.TryBroadcastAll msgs) r legal = rw legal (adds_all v msgs (try_broadcast_all_reply v msgs))
  adds is_clone v (call.AttemptSend msg) r legal = rw legal (adds_attempt v msg v.control.await_active (try_broadcast_reply v msg))
  adds is_clone v (call.PollSend place msg) r legal = adds_poll is_clone v place msg r legal
  adds is_clone v (call.TryRecv key) r legal = adds_unless v _ r refl
  adds is_clone v (call.PollFuture key) r legal = adds_unless v _ r refl
  adds is_clone v (call.PollRecv key) r legal = adds_unless v _ r refl
  adds is_clone v (call.PollNext key) r legal = adds_unless v _ r refl
  adds is_clone v (call.SetCapacity n) r legal = adds_unless v _ r refl
  adds is_clone v c r legal = none_added (is_accepted r)

  pub messages_added : (is_clone : T → T → Type 0) (h : History T) (c : Call T) (r : Reply T) → Legal is_clone (view_of h) c r → is_accepted r ≡ true → (next h c r).accepted ≡ h.accepted ++ messages_of c
  messages_added is_clone h c r legal accepted = ap (◌++◌ h.accepted) (adds is_clone (view_of h) c r legal ∙ ap (λ b. added b (messages_of c)) accepted)

  pub nothing_added : (is_clone : T → T → Type 0) (h : History T) (c : Call T) (r : Reply T) → Legal is_clone (view_of h) c r → is_accepted r ≡ false → (next h c r).accepted ≡ h.accepted
  nothing_added is_clone h c r legal refused = ap (◌++◌ h.accepted) (adds is_clone (view_of h) c r legal ∙ ap (λ b. added b (messages_of c)) refused) ∙ append-nil h.accepted

  -- ---- what is handed back
  returned_try : (v : View T) (msg : T) → is_accepted (reply.TryBroadcast (try_broadcast_reply v msg)) ≡ false → returned_by (reply.TryBroadcast (try_broadcast_reply v msg)) ≡ Some msg
  returned_try v msg refused = grind (arith, common_steps, refused)

  returned_attempt : (v : View T) (msg : T) → is_accepted (reply.AttemptSend (attempt_send_reply v msg)) ≡ false → returned_by (reply.AttemptSend (attempt_send_reply v msg)) ≡ Some msg
  returned_attempt v msg refused = grind (arith, common_steps, refused)

  returns_as_attempt : (answer : SendPoll T) → returned_by (reply.PollSend answer) ≡ returned_by (reply.AttemptSend answer)
  returns_as_attempt (send.Ready (Ok back)) = refl
  returns_as_attempt answer = refl

  returned_poll : (v : View T) (known : Bool) (msg : T) → is_accepted (reply.PollSend (cond known (attempt_send_reply v msg) (send.Wait msg))) ≡ false → returned_by (reply.PollSend (cond known (attempt_send_reply v msg) (send.Wait msg))) ≡ Some msg
  returned_poll v true msg e = returns_as_attempt (attempt_send_reply v msg) ∙ returned_attempt v msg (sym (as_attempt (attempt_send_reply v msg)) ∙ e)
  returned_poll v false msg e = refl

  pub returned_back : (is_clone : T → T → Type 0) (v : View T) (c : Call T) (r : Reply T) (msg : T) → Legal is_clone v c r → sent_by c ≡ Some msg → is_accepted r ≡ false → returned_by r ≡ Some msg
  returned_back is_clone v (call.TryBroadcast m) r msg legal is refused = ap returned_by legal ∙ returned_try v m (sym (ap is_accepted legal) ∙ refused) ∙ is
  returned_back is_clone v (call.AttemptSend m) r msg legal is refused = ap returned_by legal ∙ returned_attempt v m (sym (ap is_accepted legal) ∙ refused) ∙ is
  returned_back is_clone v (call.PollSend place m) r msg legal is refused = ap returned_by legal ∙ returned_poll v (has_place v.control place) m (sym (ap is_accepted legal) ∙ refused) ∙ is
  returned_back is_clone v c r msg legal is refused = absurd (none-some msg is)

  pub all_returned : (is_clone : T → T → Type 0) (v : View T) (msgs : List T) (r : Reply T) → Legal is_clone v (call.TryBroadcastAll msgs) r → is_accepted r ≡ false → returned_all_by r ≡ Some msgs
  all_returned is_clone v msgs r legal refused = let e = sym (ap is_accepted legal) ∙ refused in ap returned_all_by legal ∙ grind (arith, common_steps, e)
