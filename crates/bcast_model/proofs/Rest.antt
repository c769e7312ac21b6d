-- A measure that polls of told listeners lower: fewer listeners are left, or fewer that are told.
use Rattle.std.proofs.Common.{◌≡◌, ℕ, zero, suc, ◌+◌, ◌*◌, ◌≤◌, Bool, true, false, [], ◌∷◌, length, refl, sym, subst, arith, length-append, cond, Option, Some, None, ap, ◌∙◌, is_ok}
use Rattle.std.proofs.lemmas.Bool.{false≢true}
use Rattle.std.proofs.lemmas.List.{take-append-drop}
use Rattle.std.specs.FinMap.{values}
use Rattle.bcast_model.specs.Words.{Listeners, told_ids, untold_ids, is_in, without, consume}
use Rattle.bcast_model.specs.Words.{wait_again, IsDistinct, AreInOrder, IsTest, Control, AreListed}
use Rattle.bcast_model.specs.Words.{listener_count, told_count, Call, Reply, Pair, stream_of}
use Rattle.bcast_model.specs.Words.{future_of, same_place, same_pair, least, tell_receivers}
use Rattle.bcast_model.specs.Words.{has_place, place_waits, pair_answered, pair_waits, cursor_of}
use Rattle.bcast_model.specs.Words.{View, sends_are_ready, sets, try_broadcast_reply, accept, offer}
use Rattle.bcast_model.specs.Words.{with_place_answered, poll_send, receive, Effect, receive_poll}
use Rattle.bcast_model.specs.Words.{listens, skipped_to, is_empty_reply, try_recv_reply}
use Rattle.bcast_model.specs.Words.{set_unless_refused, is_out_of_memory, tell_if_ready, settle}
use Rattle.bcast_model.specs.Words.{next_view, IsValidView, polls_told}
use Rattle.bcast_model.specs.declared.run.Call.TheVariants as call
use Rattle.bcast_model.proofs.Lists.{distinct_apart, all_in}
use Rattle.bcast_model.proofs.Listeners.{told_listed, told_some, consume_listed}
use Rattle.bcast_model.proofs.Waiting.{test_place, test_pair}
use Rattle.bcast_model.proofs.Cases.{test_is, told_is, told_already, close_is, accepting_is, receive_is, lists-receive}
use Rattle.bcast_model.proofs.Receives.{empty_at}
use Rattle.bcast_model.proofs.Lift.{settle_stays}

-- ---- the measure
-- 0 + 1 + .. + (n - 1)
abbrev pub sum_below : ℕ → ℕ
sum_below zero = 0
sum_below (suc n) = n + sum_below n

-- what each poll of a told listener lowers
abbrev pub unrest : Control → ℕ
unrest c = sum_below (listener_count c) + told_count c

pub triangle : (n : ℕ) → 2 * (sum_below n + n) ≡ n * (n + 1)
triangle zero = refl
triangle (suc n) = let r = triangle n in grind (arith, r)

-- one listener is gone, and no more are told than are left
pub unrest_gone : (c after : Control) → AreListed after → listener_count after + 1 ≡ listener_count c → 1 ≤ told_count c → unrest after + 1 ≤ unrest c
unrest_gone c after listed gone some =
    let one_more : suc (listener_count after) ≡ listener_count c = omega arith in
    let sends = listed.sends.told in
    let receives = listed.receives.told in
    subst (λ n. (sum_below (listener_count after) + told_count after) + 1 ≤ sum_below n + told_count c) one_more (omega (arith, sends, receives, some))

-- ---- one list
module _ {A : Type 0} (same : A → A → Bool) (test : IsTest same) (id : A) (l : Listeners A) (in_order : AreInOrder same l) (told : is_in same id (told_ids l) ≡ true) where
  pub one_gone : length (consume same id l).ids + 1 ≡ length l.ids
  one_gone = consume_listed same test id l in_order (told_listed same test id l told)

  pub waits_last : (length (wait_again same id l).ids ≡ length l.ids) × ((wait_again same id l).told + 1 ≡ l.told)
  waits_last =
      let apart : is_in same id (untold_ids l) ≡ false = distinct_apart same test id (told_ids l) (untold_ids l) (subst (IsDistinct same) (sym (take-append-drop l.told l.ids)) in_order.distinct) told in
      let gone = one_gone in
      let some = told_some same test id l told in
      let size = length-append (without same id l.ids) (id ∷ []) in
      rw (apart, told) (omega (arith, gone, size), omega (arith, some))

module _ {T : Type 0} (v : View T) (valid : IsValidView v) where
  -- ---- after an effect, and after a send was told: the measure is lower
  abbrev Lowers : Effect T → Type 0
  Lowers e = AreListed (tell_if_ready (settle v e)).control → unrest (tell_if_ready (settle v e)).control + 1 ≤ unrest v.control

  lowers_gone : (e : Effect T) → listener_count e.control + 1 ≡ listener_count v.control → 1 ≤ told_count v.control → Lowers e
  lowers_gone e gone some listed =
      let w : View T = settle v e in
      let same = told_is (λ (x : View T). listener_count x.control ≡ listener_count w.control) w refl refl in
      unrest_gone v.control (tell_if_ready w).control listed (ap (λ n. n + 1) same ∙ gone) some

  -- none is told if one that waits is told already, or sends are not ready
  lowers_waits : (c : Control) → least v.end (values c.cursors) ≤ v.front → (sends_are_ready (record v { control = c }) ≡ true → 1 ≤ length c.waiting_sends.ids → 1 ≤ c.waiting_sends.told)
      → listener_count c ≡ listener_count v.control → told_count c + 1 ≡ told_count v.control → Lowers (sets c)
  lowers_waits c low told same fewer listed =
      let w : View T = record v { control = c } in
      let is : tell_if_ready (settle v (sets c)) ≡ w = ap tell_if_ready (settle_stays v c low) ∙ told_already w told in
      subst (λ (x : View T). unrest x.control + 1 ≤ unrest v.control) (sym is) (subst (λ n. unrest c + 1 ≤ sum_below n + told_count v.control) same (omega arith))

  -- ---- receives
  -- a receive that finds nothing moves no cursor
  nothing_moves : (key : ℕ) (cursor : Option ℕ) → is_empty_reply (try_recv_reply v cursor) ≡ true → receive v key cursor ≡ v.control
  nothing_moves key None e = cc
  nothing_moves key (Some cursor) e =
      let at = empty_at v cursor e in
      receive_is v (λ c. c ≡ v.control) key cursor
      (λ lags. absurd (omega (arith, at.kept)))
      (λ _ below. absurd (omega (arith, valid.end, at.kept, at.read)))
      (λ _ _. refl)

  module _ (pair : Pair) (cursor : Option ℕ) (told : is_in same_pair pair (told_ids v.control.waiting_receives) ≡ true) where
    receive_answered : Lowers (sets (pair_answered (receive v pair.0 cursor) pair))
    receive_answered =
        let gone = one_gone same_pair test_pair pair v.control.waiting_receives valid.control.lists.receives told in
        let some = told_some same_pair test_pair pair v.control.waiting_receives told in
        let lists = lists-receive v pair.0 cursor in
        let receives = ap (λ (l : Listeners Pair). length (without same_pair pair l.ids)) lists.1 in
        let sends = ap (λ (l : Listeners ℕ). length l.ids) lists.0 in
        lowers_gone (sets (pair_answered (receive v pair.0 cursor) pair)) (omega (arith, gone, receives, sends)) (omega (arith, some))

    receive_waits : Lowers (sets (pair_waits v.control pair))
    receive_waits =
        let last = waits_last same_pair test_pair pair v.control.waiting_receives valid.control.lists.receives told in
        lowers_waits (pair_waits v.control pair) valid.low valid.wake_ups.sends (omega (arith, last.0)) (omega (arith, last.1))

    lowers_receive : (r : Reply T) → is_out_of_memory r ≡ false → Lowers (set_unless_refused v r (receive_poll v pair cursor))
    lowers_receive r memory = subst (λ b. Lowers (cond b (sets v.control) (sets (receive_poll v pair cursor)))) (sym memory)
        (elim (is_empty_reply (try_recv_reply v cursor)) as (λ b. is_empty_reply (try_recv_reply v cursor) ≡ b → Lowers (sets (listens (receive v pair.0 cursor) pair b))) [
          | true ↦ λ none. subst (λ c. Lowers (sets (pair_waits c pair))) (sym (nothing_moves pair.0 cursor none)) receive_waits
          | false ↦ λ found. receive_answered
        ] refl)

  -- ---- sends
  abbrev HasSameIds : Control → Type 0
  HasSameIds c = (c.waiting_sends.ids ≡ v.control.waiting_sends.ids) × (c.waiting_receives.ids ≡ v.control.waiting_receives.ids)

  offered_ids : (msg : T) → HasSameIds (offer v msg).control
  offered_ids msg = test_is (λ (e : Effect T). HasSameIds e.control) (is_ok (try_broadcast_reply v msg)) (accept v msg) (sets v.control)
      (λ _. accepting_is HasSameIds v.control (v.end + 1) (close_is HasSameIds (tell_receivers v.control) (λ _. (refl, refl)) (λ _. (refl, refl))) (λ _. (refl, refl))) (λ _. (refl, refl))

  module _ (place : ℕ) (msg : T) (told : is_in same_place place (told_ids v.control.waiting_sends) ≡ true) where
    send_answered : Lowers (with_place_answered (offer v msg) place)
    send_answered =
        let ids = offered_ids msg in
        let gone = one_gone same_place test_place place v.control.waiting_sends valid.control.lists.sends told in
        let some = told_some same_place test_place place v.control.waiting_sends told in
        let sends = ap (λ ids. length (without same_place place ids)) ids.0 in
        let receives = ap length ids.1 in
        lowers_gone (with_place_answered (offer v msg) place) (omega (arith, gone, sends, receives)) (omega (arith, some))

    send_waits : sends_are_ready v ≡ false → Lowers (sets (place_waits v.control place))
    send_waits unready =
        let last = waits_last same_place test_place place v.control.waiting_sends valid.control.lists.sends told in
        lowers_waits (place_waits v.control place) valid.low (λ ready. absurd (false≢true (sym unready ∙ ready))) (omega (arith, last.0)) (omega (arith, last.1))

    placed : has_place v.control place ≡ true
    placed = all_in same_place test_place (λ other. has_place v.control other ≡ true) place v.control.waiting_sends.ids valid.control.lists.places (told_listed same_place test_place place v.control.waiting_sends told)

    lowers_send : Lowers (poll_send v place msg)
    lowers_send =
        let waits : Effect T = sets (place_waits v.control place) in
        subst (λ b. Lowers (cond b (cond (sends_are_ready v) (with_place_answered (offer v msg) place) waits) (sets v.control))) (sym placed)
        (test_is Lowers (sends_are_ready v) (with_place_answered (offer v msg) place) waits (λ _. send_answered) send_waits)

  -- a poll of a told listener that isn't out of memory lowers the measure
  pub lowers : (c : Call T) (r : Reply T) → polls_told v.control c ≡ true → is_out_of_memory r ≡ false → AreListed (next_view v c r).control → unrest (next_view v c r).control + 1 ≤ unrest v.control
  lowers (call.PollSend place msg) r told memory = lowers_send place msg told
  lowers (call.PollFuture key) r told memory = lowers_receive (future_of key) (cursor_of v.control key) told r memory
  lowers (call.PollRecv key) r told memory = lowers_receive (stream_of key) (cursor_of v.control key) told r memory
  lowers (call.PollNext key) r told memory = lowers_receive (stream_of key) (skipped_to v.front (cursor_of v.control key)) told r memory
  lowers c r told memory = cc
