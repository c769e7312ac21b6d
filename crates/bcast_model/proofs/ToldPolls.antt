-- Polls of told listeners come to rest.
use Rattle.std.proofs.Common.{◌≡◌, ℕ, ◌+◌, ◌*◌, ◌≤◌, true, false, not, ◌&&◌, List, ◌∷◌, drop, max, Option, Some, Ok, Err, refl, sym, ap, ◌∙◌, subst, arith}
use Rattle.std.proofs.lemmas.Bool.{and_parts, not-true}
use Rattle.std.proofs.lemmas.Option.{same_Some}
use Rattle.std.specs.List.{AllByRecursion}
use Rattle.std.specs.FinMap.{len}
use Rattle.bcast_model.specs.Words.{Call, Reply, is_in, Pair, same_pair, same_place}
use Rattle.bcast_model.specs.Words.{stream_of, future_of, Control, has_place, cursor_of, View}
use Rattle.bcast_model.specs.Words.{sends_are_ready, History, view_of, IsOwed, try_recv_reply}
use Rattle.bcast_model.specs.Words.{skipped_to, skipped_count, future_reply, stream_reply}
use Rattle.bcast_model.specs.Words.{next_reply, worded, Found, Legal, IsReceivedBy, is_out_of_memory, next, IsValid}
use Rattle.bcast_model.specs.Words.{IsValidView, AreListed, WouldWait, IsRun, HasRange, must_wait}
use Rattle.bcast_model.specs.Words.{listener_count, told_count, polls_told, polls_listed}
use Rattle.bcast_model.specs.Words.{told_polls, ComesToRest}
use Rattle.bcast_model.specs.declared.error.TryRecvError.TheVariants as unread
use Rattle.bcast_model.specs.declared.run.Call.TheVariants as call
use Rattle.bcast_model.specs.declared.run.Reply.TheVariants as reply
use Rattle.bcast_model.proofs.Lists.{all_in, some}
use Rattle.bcast_model.proofs.Waiting.{test_place, test_pair}
use Rattle.bcast_model.proofs.Polls.{send_waits_unready}
use Rattle.bcast_model.proofs.Receives.{empty_at_end}
use Rattle.bcast_model.proofs.Views.{valid_view}
use Rattle.bcast_model.proofs.Answers.{next_valid, view_of-next}
use Rattle.bcast_model.proofs.Rest.{unrest, triangle, lowers}
use Rattle.bcast_model.proofs.Cases.{test_is, received_is}

module _ {T : Type 0} (is_clone : T → T → Type 0) where
  -- a poll names no capacity and makes no receiver
  poll_range : (c : Control) (d : Call T) (receivers : ℕ) → polls_told c d ≡ true → HasRange d receivers
  poll_range c (call.SetCapacity n) receivers told = cc
  poll_range c call.NewReceiver receivers told = cc
  poll_range c call.Activate receivers told = cc
  poll_range c call.ActivateCloned receivers told = cc
  poll_range c (call.CloneReceiver key) receivers told = cc
  poll_range c d receivers told = tt

  module _ (h : History T) (c : Call T) (r : Reply T) (valid : IsValid h) (legal : Legal is_clone (view_of h) c r) (told : polls_told h.control c ≡ true) where
    valid_poll : IsValid (next h c r)
    valid_poll = next_valid is_clone h c r (poll_range h.control c (len (next h c r).control.cursors) told) valid legal

    lowers_next : is_out_of_memory r ≡ false → unrest (next h c r).control + 1 ≤ unrest h.control
    lowers_next memory =
        let e = view_of-next is_clone h c r valid (poll_range h.control c _ told) legal in
        subst (λ (w : View T). AreListed w.control → unrest w.control + 1 ≤ unrest h.control) (sym e) (lowers (view_of h) (valid_view h valid) c r told memory) valid_poll.control.lists

  -- the measure bounds them
  told_polls_within : (h : History T) (calls : List (Call T)) (replies : List (Reply T)) → IsValid h → IsRun is_clone h calls replies → told_polls h calls replies ≤ unrest h.control
  told_polls_within h (c ∷ calls) (r ∷ replies) valid run =
      test_is (λ n. n ≤ unrest h.control) (polls_told h.control c && not (is_out_of_memory r)) (1 + told_polls (next h c r) calls replies) 0
      (λ both.
      let is = and_parts (polls_told h.control c) (not (is_out_of_memory r)) both in
      let memory = not-true (is_out_of_memory r) is.1 in
      let one = lowers_next h c r valid run.0 is.0 memory in
      let more = told_polls_within (next h c r) calls replies (valid_poll h c r valid run.0 is.0) run.1 in
      omega (arith, one, more))
      (λ _. omega arith)
  told_polls_within h calls replies valid run = omega arith

  -- ---- if no listener is told
  module _ (v : View T) (valid : IsValidView v) (nobody : told_count v.control ≡ 0) where
    asleep : (pair : Pair) → is_in same_pair pair v.control.waiting_receives.ids ≡ true → WouldWait v.control v.end pair
    asleep pair listed =
        let untold : v.control.waiting_receives.told ≡ 0 = omega arith in
        all_in same_pair test_pair (WouldWait v.control v.end) pair v.control.waiting_receives.ids
        (subst (λ n. AllByRecursion (WouldWait v.control v.end) (drop n v.control.waiting_receives.ids)) untold valid.wake_ups.receives) listed

    unowed : (key : ℕ) (cursor : Option ℕ) → cursor ≡ Some v.end → IsOwed v key cursor → ⊥
    unowed key cursor at owed = let same = same_Some v.end owed.number (sym at ∙ owed.at) in let below = owed.kept.1 in omega (arith, same, below)

    must_receive_wait : (key : ℕ) (cursor : Option ℕ) (spelt : Found T → Reply T) (r : Reply T) → cursor ≡ Some v.end → try_recv_reply v (Some v.end) ≡ Err unread.Empty
        → must_wait (spelt (Ok (Err unread.Empty))) ≡ true → IsReceivedBy is_clone v key cursor spelt r → must_wait r ≡ true
    must_receive_wait key cursor spelt r at empty waits legal = received_is (λ r. must_wait r ≡ true) is_clone v key cursor spelt r legal
        (ap (λ answer. must_wait (spelt (Ok answer))) (ap (try_recv_reply v) at ∙ empty) ∙ waits) (λ owed _ _ _ _. absurd (unowed key cursor at owed)) (λ owed. absurd (unowed key cursor at owed))

    unready : (place : ℕ) → is_in same_place place v.control.waiting_sends.ids ≡ true → not (sends_are_ready v) ≡ true
    unready place listed =
        let some = some same_place place v.control.waiting_sends.ids listed in
        elim (sends_are_ready v) as (λ b. sends_are_ready v ≡ b → not b ≡ true) [
          | true ↦ λ ready. (let one = valid.wake_ups.sends ready (omega (arith, some)) in absurd (omega (arith, one, nobody)))
          | false ↦ λ _. refl
        ] refl

    quiet_view : (c : Call T) (r : Reply T) → polls_listed v.control c ≡ true → Legal is_clone v c r → must_wait r ≡ true
    quiet_view (call.PollSend place msg) r listed legal =
        let placed = all_in same_place test_place (λ other. has_place v.control other ≡ true) place v.control.waiting_sends.ids valid.control.lists.places listed in
        send_waits_unready is_clone v place msg r placed legal ∙ unready place listed
    quiet_view (call.PollFuture key) r listed legal =
        let waits = asleep (future_of key) listed in
        must_receive_wait key (cursor_of v.control key) (worded reply.PollFuture future_reply) r waits.0 (empty_at_end v valid waits.1) refl legal
    quiet_view (call.PollRecv key) r listed legal =
        let waits = asleep (stream_of key) listed in
        must_receive_wait key (cursor_of v.control key) (worded reply.PollRecv stream_reply) r waits.0 (empty_at_end v valid waits.1) refl legal
    quiet_view (call.PollNext key) r listed legal =
        let waits = asleep (stream_of key) listed in
        let front : max v.end v.front ≡ v.end = omega (arith, valid.high) in
        let skip : skipped_to v.front (cursor_of v.control key) ≡ Some v.end = ap (skipped_to v.front) waits.0 ∙ ap (λ n. Some n) front in
        must_receive_wait key (skipped_to v.front (cursor_of v.control key)) (worded reply.PollNext (next_reply (skipped_count v.front (cursor_of v.control key)))) r skip (empty_at_end v valid waits.1) refl legal
    quiet_view c r listed legal = cc

  -- both
  pub comes_to_rest : (h : History T) (calls : List (Call T)) (replies : List (Reply T)) → IsValid h → IsRun is_clone h calls replies → ComesToRest is_clone h calls replies
  comes_to_rest h calls replies valid run = record {
    few =
        let within = told_polls_within h calls replies valid run in
        let sends = valid.control.lists.sends.told in
        let receives = valid.control.lists.receives.told in
        subst (λ n. 2 * told_polls h calls replies ≤ n) (triangle (listener_count h.control)) (omega (arith, within, sends, receives));
    quiet = λ c r nobody listed legal. quiet_view (view_of h) (valid_view h valid) nobody c r listed legal;
  }
