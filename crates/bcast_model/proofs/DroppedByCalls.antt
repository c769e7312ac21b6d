-- Which messages each call drops: those from the front up to the floor after it.
use Rattle.std.proofs.Common.{◌≡◌, ℕ, ◌+◌, ◌≤◌, not, Bool, true, false, cond, List, [], ◌∷◌, length, Option, Some, None, Result, Ok, Err, slice_get, refl, ap, arith, is_some, is_ok, ◌∙◌, ◌-◌, ◌<◌, max, nat_lt}
use Rattle.std.proofs.lemmas.Grind.{common_steps}
use Rattle.std.specs.List.{range_with_len}
use Rattle.std.proofs.lemmas.Bool.{false≢true}
use Rattle.bcast_model.specs.Words.{TrySendError, Reply, accepting, has_place, place_waits, View}
use Rattle.bcast_model.specs.Words.{is_full, sends_are_ready, Effect, sets, reply_to_attempt}
use Rattle.bcast_model.specs.Words.{try_broadcast_reply, attempt_send_reply, accept, offer}
use Rattle.bcast_model.specs.Words.{with_place_answered, poll_send, History, view_of, front_number}
use Rattle.bcast_model.specs.Words.{end_number, queue_of, hands_back, SendPoll, must_wait, Call}
use Rattle.bcast_model.specs.Words.{Legal, resize, effect, is_out_of_memory, dropped_by}
use Rattle.bcast_model.specs.declared.error.TrySendError.TheVariants as unsent
use Rattle.bcast_model.specs.declared.run.SendPoll.TheVariants as send
use Rattle.bcast_model.specs.declared.run.Reply.TheVariants as reply
use Rattle.bcast_model.specs.declared.run.Call.TheVariants as call
use Rattle.bcast_model.proofs.Cases.{cursors-accepting, try_is, test_is}
use Rattle.bcast_model.proofs.DeliveryLists.{past_end}
use Rattle.bcast_model.proofs.Views.{IsBounded, front-le-end, length-queue}
use Rattle.bcast_model.proofs.Polls.{attempt_waits}
use Rattle.bcast_model.proofs.SendAll.{offer_all_is}

-- an effect drops no message, or some from the front on while the cursors stay
pub data FloorChange {T : Type 0} (h : History T) (e : Effect T) (dropped : List ℕ) : Type 0 where
  stays : e.floor ≡ 0 → dropped ≡ [] → FloorChange h e dropped
  passes : (count : ℕ) → e.control.cursors ≡ h.control.cursors → e.floor ≡ front_number h + count → front_number h + count ≤ end_number h + length e.accepted → dropped ≡ range_with_len (front_number h) count → FloorChange h e dropped

module _ {T : Type 0} where
  -- ---- sends
  -- whether a send hands back a message
  abbrev pub hands : Result (Option T) (TrySendError T) → Bool
  hands (Ok back) = is_some back
  hands (Err error) = false

  pub hands_back-sent : (msg : T) (answer : Result (Option T) (TrySendError T)) → hands_back (call.TryBroadcast msg) (reply.TryBroadcast answer) ≡ hands answer
  hands_back-sent msg (Ok None) = refl
  hands_back-sent msg answer = refl

  pub hands_back-attempted : (msg : T) (await : Bool) (answer : Result (Option T) (TrySendError T)) → hands_back (call.AttemptSend msg) (reply.AttemptSend (reply_to_attempt await answer)) ≡ hands answer
  hands_back-attempted msg await (Ok None) = refl
  hands_back-attempted msg await (Err (unsent.Full other)) = refl
  hands_back-attempted msg true (Err (unsent.Inactive other)) = refl
  hands_back-attempted msg await answer = refl

  hands_back-poll_send : (place : ℕ) (msg : T) (answer : SendPoll T) → hands_back (call.PollSend place msg) (reply.PollSend answer) ≡ hands_back (call.AttemptSend msg) (reply.AttemptSend answer)
  hands_back-poll_send place msg (send.Ready (Ok (Some oldest))) = refl
  hands_back-poll_send place msg answer = refl

  -- the oldest message of a full channel is there
  oldest_there : (h : History T) (o : Option T) → IsBounded h → is_full (view_of h) ≡ true → slice_get (queue_of h) 0 ≡ o → is_some o ≡ true
  oldest_there h (Some msg) bounded full is = refl
  oldest_there h None bounded full is =
      let none = past_end (queue_of h) 0 is in
      let positive = bounded.capacity in
      absurd (grind (arith, common_steps, none, positive, full))

  pub floor-send : (h : History T) (msg : T) → IsBounded h → FloorChange h (offer (view_of h) msg) (cond (hands (try_broadcast_reply (view_of h) msg)) (front_number h ∷ []) [])
  floor-send h msg bounded = try_is (λ answer. FloorChange h (cond (is_ok answer) (accept (view_of h) msg) (sets h.control)) (cond (hands answer) (front_number h ∷ []) [])) (view_of h) msg (λ error e. stays refl refl) (λ e.
      elim (is_full (view_of h)) as (λ b. is_full (view_of h) ≡ b → FloorChange h
      (record { control = accepting h.control (end_number h + 1); accepted = msg ∷ []; floor = cond b (front_number h + 1) 0 })
      (cond (is_some (cond b (slice_get (queue_of h) 0) None)) (front_number h ∷ []) [])) [
        | true ↦ λ full.
            let there : is_some (slice_get (queue_of h) 0) ≡ true = oldest_there h (slice_get (queue_of h) 0) bounded full refl in
            let within = front-le-end h bounded in
            rw there (passes 1 (cursors-accepting h.control (end_number h + 1)) refl (omega (arith, within)) refl)
        | false ↦ λ full. stays refl refl
      ] refl)

  waits_unhanded : (await : Bool) (answer : Result (Option T) (TrySendError T)) → must_wait (reply.PollSend (reply_to_attempt await answer)) ≡ true → hands answer ≡ false
  waits_unhanded await (Ok back) e = absurd (false≢true e)
  waits_unhanded await (Err error) e = refl

  not_handed : (v : View T) (msg : T) → sends_are_ready v ≡ false → hands (try_broadcast_reply v msg) ≡ false
  not_handed v msg ready = waits_unhanded v.control.await_active (try_broadcast_reply v msg) (attempt_waits v msg ∙ ap not ready)

  answered_same : (h : History T) (e : Effect T) (place : ℕ) (dropped : List ℕ) → FloorChange h e dropped → FloorChange h (with_place_answered e place) dropped
  answered_same h e place dropped (stays floor none) = stays floor none
  answered_same h e place dropped (passes count cursors floor within is) = passes count cursors floor within is

  pub floor-poll_send : (h : History T) (place : ℕ) (msg : T) (r : Reply T) → IsBounded h → r ≡ reply.PollSend (cond (has_place h.control place) (attempt_send_reply (view_of h) msg) (send.Wait msg)) → FloorChange h (poll_send (view_of h) place msg) (cond (hands_back (call.PollSend place msg) r) (front_number h ∷ []) [])
  floor-poll_send h place msg r bounded legal =
      let v : View T = view_of h in
      rw legal
      (elim (has_place h.control place) as (λ b. FloorChange h
      (cond b (cond (sends_are_ready v) (with_place_answered (offer v msg) place) (sets (place_waits h.control place))) (sets h.control))
      (cond (hands_back (call.PollSend place msg) (reply.PollSend (cond b (attempt_send_reply v msg) (send.Wait msg)))) (front_number h ∷ []) [])) [
        | true ↦
            rw (hands_back-poll_send place msg (attempt_send_reply v msg), hands_back-attempted msg h.control.await_active (try_broadcast_reply v msg))
            (elim (sends_are_ready v) as (λ b. sends_are_ready v ≡ b → FloorChange h
            (cond b (with_place_answered (offer v msg) place) (sets (place_waits h.control place))) (cond (hands (try_broadcast_reply v msg)) (front_number h ∷ []) [])) [
              | true ↦ λ ready. answered_same h (offer v msg) place _ (floor-send h msg bounded)
              | false ↦ λ ready. let none : hands (try_broadcast_reply v msg) ≡ false = not_handed v msg ready in rw none (stays refl refl)
            ] refl)
        | false ↦ stays refl refl
      ])

module _ {T : Type 0} where
  -- ---- a smaller capacity
  floor-resize : (h : History T) (n : ℕ) → IsBounded h → FloorChange h (resize (view_of h) n) (range_with_len (front_number h) (length (queue_of h) - n))
  floor-resize h n bounded =
      let size = length-queue h bounded in
      test_is (λ floor. FloorChange h (record { control = record h.control { capacity = n; room = max h.control.room n }; accepted = []; floor = floor }) (range_with_len (front_number h) (length (queue_of h) - n)))
      (nat_lt n (length (queue_of h))) (end_number h - n) 0
      (λ t. let fewer : n < length (queue_of h) = grind (arith, common_steps, t) in passes (length (queue_of h) - n) refl (omega (arith, size, fewer)) (omega (arith, size)) refl)
      (λ t. let none : length (queue_of h) - n ≡ 0 = grind (arith, common_steps, t) in stays refl (ap (range_with_len (front_number h)) none))

  -- ---- a receive drops nothing
  unless_none : (h : History T) (r : Reply T) (e : Effect T) → e.floor ≡ 0 → (cond (is_out_of_memory r) (sets h.control) e).floor ≡ 0
  unless_none h r e none = test_is (λ (e : Effect T). e.floor ≡ 0) (is_out_of_memory r) (sets h.control) e (λ _. refl) (λ _. none)

  -- ---- each call
  pub floor-effect : (is_clone : T → T → Type 0) (h : History T) (c : Call T) (r : Reply T) → IsBounded h → Legal is_clone (view_of h) c r → FloorChange h (effect (view_of h) c r) (dropped_by h c r)
  floor-effect is_clone h (call.TryBroadcast msg) r bounded legal =
      rw (legal, hands_back-sent msg (try_broadcast_reply (view_of h) msg)) (floor-send h msg bounded)
  floor-effect is_clone h (call.TryBroadcastAll msgs) r bounded legal = stays (offer_all_is (λ e. e.floor ≡ 0) (view_of h) msgs refl (λ _ _ _ _. refl)) refl
  floor-effect is_clone h (call.AttemptSend msg) r bounded legal =
      rw (legal, hands_back-attempted msg h.control.await_active (try_broadcast_reply (view_of h) msg)) (floor-send h msg bounded)
  floor-effect is_clone h (call.PollSend place msg) r bounded legal = floor-poll_send h place msg r bounded legal
  floor-effect is_clone h (call.SetCapacity n) r bounded legal =
      elim (is_out_of_memory r) as (λ b. FloorChange h (cond b (sets h.control) (resize (view_of h) n)) (cond b [] (range_with_len (front_number h) (length (queue_of h) - n)))) [ true ↦ stays refl refl | false ↦ floor-resize h n bounded ]
  floor-effect is_clone h (call.TryRecv key) r bounded legal = stays (unless_none h r _ refl) refl
  floor-effect is_clone h (call.PollFuture key) r bounded legal = stays (unless_none h r _ refl) refl
  floor-effect is_clone h (call.PollRecv key) r bounded legal = stays (unless_none h r _ refl) refl
  floor-effect is_clone h (call.PollNext key) r bounded legal = stays (unless_none h r _ refl) refl
  floor-effect is_clone h c r bounded legal = stays refl refl
