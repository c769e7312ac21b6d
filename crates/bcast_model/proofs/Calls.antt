-- What each call does to the view keeps a history valid.
use Rattle.std.proofs.Common.{◌≡◌, inr, ℕ, ◌<◌, ◌≤◌, ◌^◌, ◌==◌, true, false, not, is_some, refl, subst, sym}
use Rattle.std.specs.FinMap.{len}
use Rattle.bcast_model.specs.Words.{Call, Reply, stream_of, future_of, cursor_of, clone_receiver}
use Rattle.bcast_model.specs.Words.{is_out_of_memory, chosen_id, View, Legal, sets, effect, resize}
use Rattle.bcast_model.specs.Words.{HasRange, IsValidView}
use Rattle.bcast_model.specs.declared.run.Call.TheVariants as call
use Rattle.bcast_model.specs.declared.run.Reply.TheVariants as reply
use Rattle.bcast_model.proofs.Cases.{test_is, uncloned}
use Rattle.bcast_model.proofs.Lift.{KeepsValid}
use Rattle.bcast_model.proofs.Kept.{kept_idle, kept_close, keeps_sets}
use Rattle.bcast_model.proofs.Sends.{kept_begin_send, kept_end_send, keeps_offer, keeps_poll_send}
use Rattle.bcast_model.proofs.SendAll.{keeps_offer_all}
use Rattle.bcast_model.proofs.Receives.{kept_receive, kept_poll, kept_poll_next, keeps_unless}
use Rattle.bcast_model.proofs.Making.{with_new, with_activated, kept_pair_dropped, kept_drop_receiver, kept_deactivate, kept_drop_sender, kept_drop_inactive, kept_new_receiver, kept_activate, kept_clone_receiver, kept_made, kept_new_sender, kept_clone_inactive, kept_settings, keeps_resize}
use Rattle.bcast_model.proofs.Sound.{IsKept}

module _ {T : Type 0} where
  -- the range that a call keeps to; a capacity that is refused memory needs none
  abbrev pub Fits : Call T → Reply T → ℕ → Type 0
  Fits (call.SetCapacity n) r receivers = is_out_of_memory r ≡ false → (1 ≤ n) × (n < 2 ^ 64)
  Fits c r receivers = HasRange c receivers

  pub fits_range : (c : Call T) (r : Reply T) (receivers : ℕ) → HasRange c receivers → Fits c r receivers
  fits_range (call.SetCapacity n) r receivers range = λ _. range
  fits_range c r receivers range = range

module _ {T : Type 0} (is_clone : T → T → Type 0) where
  pub keeps_valid : (c : Call T) (r : Reply T) (v : View T) → IsValidView v → Fits c r (len (effect v c r).control.cursors) → Legal is_clone v c r → KeepsValid v (effect v c r)
  keeps_valid (call.TryBroadcast msg) r v valid range legal = keeps_offer v valid msg
  keeps_valid (call.TryBroadcastAll msgs) r v valid range legal = keeps_offer_all v valid msgs
  keeps_valid (call.AttemptSend msg) r v valid range legal = keeps_offer v valid msg
  keeps_valid call.BeginSend r v valid range legal = keeps_sets (kept_begin_send v valid (chosen_id r))
  keeps_valid (call.PollSend place msg) r v valid range legal = keeps_poll_send v valid place msg
  keeps_valid (call.EndSend place) r v valid range legal = keeps_sets (kept_end_send v valid place)
  keeps_valid (call.TryRecv key) r v valid range legal = keeps_unless v valid r (kept_receive v valid key (cursor_of v.control key) refl)
  keeps_valid (call.PollFuture key) r v valid range legal = keeps_unless v valid r (kept_poll v valid (future_of key) (cursor_of v.control key) refl)
  keeps_valid (call.EndFuture key) r v valid range legal = keeps_sets (kept_pair_dropped v valid (future_of key))
  keeps_valid (call.PollRecv key) r v valid range legal = keeps_unless v valid r (kept_poll v valid (stream_of key) (cursor_of v.control key) refl)
  keeps_valid (call.PollNext key) r v valid range legal = keeps_unless v valid r (kept_poll_next v valid (stream_of key) (cursor_of v.control key) refl)
  keeps_valid call.Close r v valid range legal = keeps_sets (kept_close v v.control (kept_idle v valid).sound valid.fits)
  keeps_valid (call.SetCapacity n) r v valid range legal = test_is (KeepsValid v) (is_out_of_memory r) (sets v.control) (resize v n)
      (λ _. keeps_sets (kept_idle v valid))
      (λ memory. keeps_resize v valid n (range memory).0 (range memory).1)
  keeps_valid (call.SetOverflow on) r v valid range legal = keeps_sets (kept_settings v valid on v.control.await_active)
  keeps_valid (call.SetAwaitActive on) r v valid range legal = keeps_sets (kept_settings v valid v.control.overflow on)
  keeps_valid call.NewSender r v valid range legal = keeps_sets (kept_new_sender v valid)
  keeps_valid call.CloneInactive r v valid range legal = keeps_sets (kept_clone_inactive v valid)
  keeps_valid (call.Deactivate key) r v valid range legal = keeps_sets (kept_deactivate v valid key (cursor_of v.control key))
  keeps_valid call.NewReceiver r v valid range legal = keeps_sets (kept_made v valid (with_new v) true reply.NewReceiver r (inr (refl, legal)) (kept_new_receiver v valid) (λ _. kept_idle v valid) range)
  keeps_valid call.Activate r v valid range legal = keeps_sets (kept_made v valid (with_activated v) (not (v.control.inactive == 0)) reply.Activate r legal (kept_activate v valid) (λ _. kept_idle v valid) range)
  keeps_valid call.ActivateCloned r v valid range legal = keeps_sets (kept_made v valid (with_new v) (not (v.control.inactive == 0)) reply.ActivateCloned r legal (kept_new_receiver v valid) (λ _. kept_idle v valid) range)
  keeps_valid (call.CloneReceiver key) r v valid range legal = keeps_sets (kept_made v valid (clone_receiver v.control (cursor_of v.control key)) (is_some (cursor_of v.control key)) reply.CloneReceiver r legal
      (λ made. kept_clone_receiver v valid key (cursor_of v.control key) made refl) (λ _. subst (IsKept v) (sym (uncloned v.control (cursor_of v.control key))) (kept_idle v valid)) range)
  keeps_valid call.DropSender r v valid range legal = keeps_sets (kept_drop_sender v valid)
  keeps_valid call.DropInactive r v valid range legal = keeps_sets (kept_drop_inactive v valid)
  keeps_valid (call.DropReceiver key) r v valid range legal = keeps_sets (kept_drop_receiver v valid key (cursor_of v.control key))
  -- the calls that read
  keeps_valid reads r v valid range legal = keeps_sets (kept_idle v valid)
