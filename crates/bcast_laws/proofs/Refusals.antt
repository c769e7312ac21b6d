-- A refused call changes nothing.
use Rattle.std.proofs.Common.{◌≡◌, inl, inr, ℕ, ◌+◌, ◌-◌, ◌==◌, not, Bool, true, false, cond, max, Option, Some, None, Result, Ok, Err, refl, sym, ap, ◌∙◌, arith, append-nil, alloc_error, is_ok, ◌||◌, is_some}
use Rattle.std.proofs.Math.Bool.{not-not}
use Rattle.std.proofs.lemmas.Option.{slice_get_cases}
use Rattle.bcast_model.specs.declared.run.Call.{Call}
use Rattle.bcast_model.specs.declared.run.Call.TheVariants as call
use Rattle.bcast_model.specs.declared.run.Reply.{Reply}
use Rattle.bcast_model.specs.declared.run.Reply.TheVariants as reply
use Rattle.bcast_model.specs.Words.{Control, closing, cursor_of, View, Effect, sets}
use Rattle.bcast_model.specs.Words.{try_broadcast_reply}
use Rattle.bcast_model.specs.Words.{reply_to_attempt, accept, try_broadcast_all_reply, accept_all}
use Rattle.bcast_model.specs.Words.{receive, recv_reply, skipped_count, skipped_to, future_reply}
use Rattle.bcast_model.specs.Words.{stream_reply, next_reply, worded, Found, try_recv_reply, Legal}
use Rattle.bcast_model.specs.Words.{IsReceivedBy, set_unless_refused, effect, History, view_of}
use Rattle.bcast_model.specs.Words.{remember, with_control, is_out_of_memory}
use Rattle.bcast_model.specs.Words.{end_call, next, IsValid, IsValidView, has_next}
use Rattle.bcast_model.specs.Words.{count_reply, deactivate, without_receiver}
use Rattle.bcast_model.specs.declared.error.HandleError.{HandleError}
use Rattle.bcast_model.specs.declared.error.HandleError.TheVariants as handle
use Rattle.bcast_laws.specs.Sends.{is_refused, RefusedChangesNothing}
use Rattle.bcast_model.proofs.Views.{valid_view}
use Rattle.bcast_model.proofs.Cases.{told_valid, uncloned, made_is, received_is, receive_is, lagging_reply, passed_reply}
use Rattle.bcast_laws.proofs.Sends.{apart, returned_back, all_returned}
use Rattle.bcast_model.proofs.Lift.{view_of-end_call}

-- ---- calls that make handles
same_cloned : (T : Type 0) (none has : Bool) (c more : Control) → is_refused {T = T} (reply.CloneInactive (cond (not none) (cond has (Ok tt) (Err handle.TooMany)) (Err handle.Gone))) ≡ true → cond (none || not has) c more ≡ c
same_cloned T true has c more e = refl
same_cloned T false true c more e = apart e
same_cloned T false false c more e = refl

-- a count that is full stays
same_counted : {T : Type 0} (spelt : Result (Unit {0}) HandleError → Reply T) (c more : Control) (has : Bool) → is_refused (spelt (Ok tt)) ≡ false → is_refused (spelt (cond has (Ok tt) (Err handle.TooMany))) ≡ true → cond has more c ≡ c
same_counted spelt c more true gives e = apart (sym gives ∙ e)
same_counted spelt c more false gives e = refl

same_deactivated : (T : Type 0) (c : Control) (key : ℕ) (cursor : Option ℕ) → is_refused {T = T} (reply.Deactivate (count_reply (is_some cursor) c.inactive)) ≡ true → deactivate c key cursor ≡ c
same_deactivated T c key None e = refl
same_deactivated T c key (Some cursor) e = same_counted {T = T} reply.Deactivate c (record (without_receiver c key) { inactive = c.inactive + 1 }) (has_next c.inactive) refl e

module _ {T : Type 0} where
  -- ---- sends
  same_sent : {A E : Type 0} (spelt : Result A E → Reply T) (accepted idle : Effect T) (answer : Result A E) → ((back : A) → is_refused (spelt (Ok back)) ≡ false) → is_refused (spelt answer) ≡ true → cond (is_ok answer) accepted idle ≡ idle
  same_sent spelt accepted idle (Ok back) gives e = apart (sym (gives back) ∙ e)
  same_sent spelt accepted idle (Err error) gives e = refl

  -- ---- receives
  same_receive : (v : View T) (key : ℕ) (cursor : Option ℕ) → IsValidView v → is_refused (reply.TryRecv (Ok (try_recv_reply v cursor))) ≡ true → receive v key cursor ≡ v.control
  same_receive v key None valid e = refl
  same_receive v key (Some cursor) valid e = receive_is v (λ c. c ≡ v.control) key cursor
      (λ lags. apart (sym (ap (λ answer. is_refused (reply.TryRecv (Ok answer))) (lagging_reply v cursor lags)) ∙ e))
      (λ passed below. elim (slice_get_cases v.queue (cursor - v.front)).1 [
        | inl some ↦ apart (sym (ap (λ answer. is_refused (reply.TryRecv (Ok answer))) (passed_reply v cursor passed ∙ ap (recv_reply v.control.closed) some.2)) ∙ e)
        | inr none ↦ (let past = none.0 in absurd (omega (arith, past, valid.end, below, passed)))
      ])
      (λ _ _. refl)

  -- a receive is refused if its exact result is a refusal, or memory was refused
  same_received : (is_clone : T → T → Type 0) (v : View T) (key : ℕ) (cursor : Option ℕ) (spelt : Found T → Reply T) (c : Control) (r : Reply T) → let exact = spelt (Ok (try_recv_reply v cursor)) in
      (is_refused exact ≡ true → set_unless_refused v exact c ≡ sets v.control) → ((msg : T) → is_refused (spelt (Ok (Ok msg))) ≡ false) → is_out_of_memory (spelt (Err alloc_error)) ≡ true
      → IsReceivedBy is_clone v key cursor spelt r → is_refused r ≡ true → set_unless_refused v r c ≡ sets v.control
  same_received is_clone v key cursor spelt c r same gives memory legal e =
      received_is (λ r. is_refused r ≡ true → set_unless_refused v r c ≡ sets v.control) is_clone v key cursor spelt r legal
      same (λ _ msg given was copy e. apart (sym (gives given) ∙ e)) (λ _ e. ap (λ b. cond b (sets v.control) (sets c)) memory) e

  -- ---- each call
  same_effect : (is_clone : T → T → Type 0) (v : View T) (c : Call T) (r : Reply T) → IsValidView v → Legal is_clone v c r → is_refused r ≡ true → effect v c r ≡ sets v.control
  same_effect is_clone v (call.TryBroadcast msg) r valid legal e = same_sent reply.TryBroadcast (accept v msg) (sets v.control) (try_broadcast_reply v msg) (λ _. refl) (sym (ap is_refused legal) ∙ e)
  same_effect is_clone v (call.TryBroadcastAll msgs) r valid legal e = same_sent reply.TryBroadcastAll (accept_all v msgs) (sets v.control) (try_broadcast_all_reply v msgs) (λ _. refl) (sym (ap is_refused legal) ∙ e)
  same_effect is_clone v (call.AttemptSend msg) r valid legal e = same_sent (λ answer. reply.AttemptSend (reply_to_attempt v.control.await_active answer)) (accept v msg) (sets v.control) (try_broadcast_reply v msg) (λ _. refl) (sym (ap is_refused legal) ∙ e)
  same_effect is_clone v call.BeginSend r valid (inl (place, is, free)) e = apart (sym (ap is_refused is) ∙ e)
  same_effect is_clone v call.BeginSend r valid (inr is) e = rw is refl
  same_effect is_clone v (call.TryRecv key) r valid legal e =
      let cursor : Option ℕ = cursor_of v.control key in
      same_received is_clone v key cursor reply.TryRecv (receive v key cursor) r (λ refuses. ap sets (same_receive v key cursor valid refuses)) (λ msg. refl) refl legal e
  same_effect is_clone v (call.PollFuture key) r valid legal e =
      same_received is_clone v key (cursor_of v.control key) (worded reply.PollFuture future_reply) _ r (λ refuses. apart refuses) (λ msg. refl) refl legal e
  same_effect is_clone v (call.PollRecv key) r valid legal e =
      same_received is_clone v key (cursor_of v.control key) (worded reply.PollRecv stream_reply) _ r (λ refuses. apart refuses) (λ msg. refl) refl legal e
  same_effect is_clone v (call.PollNext key) r valid legal e =
      let cursor : Option ℕ = cursor_of v.control key in
      same_received is_clone v key (skipped_to v.front cursor) (worded reply.PollNext (next_reply (skipped_count v.front cursor))) _ r (λ refuses. apart refuses) (λ msg. refl) refl legal e
  same_effect is_clone v call.Close r valid legal e = ap (λ b. sets (cond b v.control (closing v.control))) (sym (not-not v.control.closed) ∙ sym (ap is_refused legal) ∙ e)
  same_effect is_clone v (call.SetCapacity n) r valid (inl is) e = apart (sym (ap is_refused is) ∙ e)
  same_effect is_clone v (call.SetCapacity n) r valid (inr (is, more)) e = rw is refl
  same_effect is_clone v call.NewSender r valid legal e = ap sets (same_counted {T = T} reply.NewSender v.control (record v.control { senders = v.control.senders + 1 }) (has_next v.control.senders) refl (sym (ap is_refused legal) ∙ e))
  same_effect is_clone v call.CloneInactive r valid legal e =
      ap sets (same_cloned T (v.control.inactive == 0) (has_next v.control.inactive) v.control (record v.control { inactive = v.control.inactive + 1 }) (sym (ap is_refused legal) ∙ e))
  same_effect is_clone v (call.Deactivate key) r valid legal e = ap sets (same_deactivated T v.control key (cursor_of v.control key) (sym (ap is_refused legal) ∙ e))
  same_effect is_clone v call.NewReceiver r valid legal e = made_is (λ r. is_refused r ≡ true → effect v call.NewReceiver r ≡ sets v.control) true v.control.cursors reply.NewReceiver r (inr (refl, legal)) (λ _ _ e. apart e) (λ _ _. refl) e
  same_effect is_clone v call.Activate r valid legal e = made_is (λ r. is_refused r ≡ true → effect v call.Activate r ≡ sets v.control) _ v.control.cursors reply.Activate r legal (λ _ _ e. apart e) (λ _ _. refl) e
  same_effect is_clone v call.ActivateCloned r valid legal e = made_is (λ r. is_refused r ≡ true → effect v call.ActivateCloned r ≡ sets v.control) _ v.control.cursors reply.ActivateCloned r legal (λ _ _ e. apart e) (λ _ _. refl) e
  same_effect is_clone v (call.CloneReceiver other) r valid legal e =
      made_is (λ r. is_refused r ≡ true → effect v (call.CloneReceiver other) r ≡ sets v.control) _ v.control.cursors reply.CloneReceiver r legal (λ _ _ e. apart e) (λ _ _. ap sets (uncloned v.control (cursor_of v.control other))) e
  same_effect is_clone v c r valid legal e = apart (sym (ap is_refused legal) ∙ e)

  -- ---- at the end of a call
  -- a history that remembers nothing new
  remember-idle : (h : History T) → remember h (sets h.control) ≡ h
  remember-idle h =
      let floor : max h.floor 0 ≡ h.floor = omega arith in
      λ i. record { first = h.first; accepted = append-nil h.accepted i; floor = floor i; control = h.control }

  pub refused_same : (is_clone : T → T → Type 0) (h : History T) (c : Call T) (r : Reply T) → IsValid h → Legal is_clone (view_of h) c r → is_refused r ≡ true → next h c r ≡ h
  refused_same is_clone h c r valid legal e =
      ap (λ now. end_call (remember h now)) (same_effect is_clone (view_of h) c r (valid_view h valid) legal e) ∙ ap end_call (remember-idle h)
      ∙ ap (λ (v : View T). with_control h v.control) (view_of-end_call h ∙ told_valid (view_of h) (valid_view h valid))

  pub refused_changes_nothing : (is_clone : T → T → Type 0) → RefusedChangesNothing is_clone
  refused_changes_nothing is_clone = record { same = refused_same is_clone; returned = returned_back is_clone; all_returned = all_returned is_clone }
