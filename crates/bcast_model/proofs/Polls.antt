-- A poll waits exactly if its try finds nothing.
use Rattle.std.proofs.Common.{◌≡◌, inl, inr, ℕ, ◌<◌, ◌≤◌, Bool, true, false, cond, not, ◌&&◌, ◌||◌, max, Option, Some, None, Result, Ok, Err, refl, sym, ap, ◌∙◌, arith, alloc_error}
use Rattle.std.proofs.lemmas.Bool.{cases_lt, false≢true}
use Rattle.std.specs.FinMap.{get}
use Rattle.bcast_model.specs.Words.{TrySendError, TryRecvError, Call, Reply, has_place}
use Rattle.bcast_model.specs.Words.{has_no_receiver, cursor_of, is_full, sends_are_ready, View}
use Rattle.bcast_model.specs.Words.{reply_to_attempt, handed_back, attempt_send_reply}
use Rattle.bcast_model.specs.Words.{try_broadcast_reply, is_empty_reply, skipped_count, skipped_to}
use Rattle.bcast_model.specs.Words.{future_reply, stream_reply, next_reply, try_recv_reply, worded, Found}
use Rattle.bcast_model.specs.Words.{Legal, IsReceivedBy, is_out_of_memory, IsValidView, must_wait}
use Rattle.bcast_model.specs.Words.{is_wait_reply, is_poll, try_finds_nothing, PollsWaitWhereTriesFindNothing}
use Rattle.bcast_model.specs.declared.error.TrySendError.TheVariants as unsent
use Rattle.bcast_model.specs.declared.error.TryRecvError.TheVariants as unread
use Rattle.bcast_model.specs.declared.run.SendPoll.TheVariants as send
use Rattle.bcast_model.specs.declared.run.Call.TheVariants as call
use Rattle.bcast_model.specs.declared.run.Reply.TheVariants as reply
use Rattle.bcast_model.proofs.Views.{lagging}
use Rattle.bcast_model.proofs.Receives.{empty_at}
use Rattle.bcast_model.proofs.Cases.{received_is}

module _ {T : Type 0} where
  -- ---- sends
  send_waits : (await_active : Bool) (answer : Result (Option T) (TrySendError T)) → must_wait (reply.PollSend (reply_to_attempt await_active answer)) ≡ is_wait_reply await_active answer
  send_waits await_active (Err (unsent.Full msg)) = refl
  send_waits true (Err (unsent.Inactive msg)) = refl
  send_waits await_active answer = refl

  -- by: closed, no receiver, overflow, full, sends await a receiver
  unready_waits : (closed none overflow full await_active : Bool) (back : Option T) (msg : T)
      → must_wait (reply.PollSend (reply_to_attempt await_active (cond closed (Err (unsent.Closed msg)) (cond none (Err (unsent.Inactive msg)) (cond (full && not overflow) (Err (unsent.Full msg)) (Ok back))))))
      ≡ not (closed || (not none && (overflow || not full)) || (none && not await_active))
  unready_waits false true overflow full true back msg = refl
  unready_waits false false true true await_active back msg = refl
  unready_waits false false false true await_active back msg = refl
  unready_waits closed none overflow full await_active back msg = refl

  pub attempt_waits : (v : View T) (msg : T) → must_wait (reply.PollSend (attempt_send_reply v msg)) ≡ not (sends_are_ready v)
  attempt_waits v msg = unready_waits v.control.closed (has_no_receiver v.control) v.control.overflow (is_full v) v.control.await_active (handed_back v) msg

  module _ (is_clone : T → T → Type 0) (v : View T) (place : ℕ) (msg : T) (r : Reply T) (known : has_place v.control place ≡ true) (legal : Legal is_clone v (call.PollSend place msg) r) where
    polled : must_wait r ≡ must_wait (reply.PollSend (attempt_send_reply v msg))
    polled = ap must_wait (legal ∙ ap (λ b. reply.PollSend (cond b (attempt_send_reply v msg) (send.Wait msg))) known)

    pub send_waits_full : must_wait r ≡ is_wait_reply v.control.await_active (try_broadcast_reply v msg)
    send_waits_full = polled ∙ send_waits v.control.await_active (try_broadcast_reply v msg)

    pub send_waits_unready : must_wait r ≡ not (sends_are_ready v)
    send_waits_unready = polled ∙ attempt_waits v msg

  -- ---- receives
  received_waits : (is_clone : T → T → Type 0) (v : View T) (key : ℕ) (cursor : Option ℕ) (spelt : Found T → Reply T) (r : Reply T)
      → ((answer : Result T TryRecvError) → must_wait (spelt (Ok answer)) ≡ is_empty_reply answer) → is_out_of_memory (spelt (Err alloc_error)) ≡ true → is_out_of_memory r ≡ false → IsReceivedBy is_clone v key cursor spelt r → must_wait r ≡ is_empty_reply (try_recv_reply v cursor)
  received_waits is_clone v key cursor spelt r waits none memory legal =
      received_is (λ r. is_out_of_memory r ≡ false → must_wait r ≡ is_empty_reply (try_recv_reply v cursor)) is_clone v key cursor spelt r legal (λ _. waits (try_recv_reply v cursor))
      (λ _ msg given was _ _. waits (Ok given) ∙ sym (ap is_empty_reply was)) (λ _ e. absurd (false≢true (sym e ∙ none))) memory

  future_waits : (answer : Result T TryRecvError) → must_wait (reply.PollFuture (Ok (future_reply answer))) ≡ is_empty_reply answer
  future_waits (Err (unread.Overflowed n)) = refl
  future_waits answer = refl

  stream_waits : (answer : Result T TryRecvError) → must_wait (reply.PollRecv (Ok (stream_reply answer))) ≡ is_empty_reply answer
  stream_waits (Err (unread.Overflowed n)) = refl
  stream_waits answer = refl

  next_waits : (skips : ℕ) (answer : Result T TryRecvError) → must_wait (reply.PollNext (Ok (next_reply skips answer))) ≡ is_empty_reply answer
  next_waits skips (Err (unread.Overflowed n)) = refl
  next_waits skips answer = refl

  -- a receiver that lags finds something, before a skip and after it
  not_empty : (v : View T) (at : ℕ) → IsValidView v → at ≤ v.front → v.front < v.end → is_empty_reply (try_recv_reply v (Some at)) ≡ false
  not_empty v at valid low some = elim (is_empty_reply (try_recv_reply v (Some at))) as (λ b. is_empty_reply (try_recv_reply v (Some at)) ≡ b → b ≡ false) [
    | true ↦ λ e. (let f = empty_at v at e in absurd (omega (arith, f.kept, f.read, valid.end)))
    | false ↦ λ _. refl
  ] refl

  skip_same : (v : View T) (key : ℕ) (cursor : Option ℕ) → IsValidView v → get v.control.cursors key ≡ cursor → is_empty_reply (try_recv_reply v (skipped_to v.front cursor)) ≡ is_empty_reply (try_recv_reply v cursor)
  skip_same v key None valid e = refl
  skip_same v key (Some cursor) valid e = elim (cases_lt cursor v.front) [
    | inl lags ↦ (let some = lagging v valid key cursor e lags in not_empty v (max cursor v.front) valid (omega arith) some ∙ sym (not_empty v cursor valid (omega arith) some))
    | inr here ↦ (let same : max cursor v.front ≡ cursor = omega arith in ap (λ at. is_empty_reply (try_recv_reply v (Some at))) same)
  ]

  module _ (is_clone : T → T → Type 0) (v : View T) (key : ℕ) (r : Reply T) (memory : is_out_of_memory r ≡ false) where
    pub future_waits_empty : Legal is_clone v (call.PollFuture key) r → must_wait r ≡ is_empty_reply (try_recv_reply v (cursor_of v.control key))
    future_waits_empty legal = received_waits is_clone v key (cursor_of v.control key) (worded reply.PollFuture future_reply) r future_waits refl memory legal

    pub recv_waits_empty : Legal is_clone v (call.PollRecv key) r → must_wait r ≡ is_empty_reply (try_recv_reply v (cursor_of v.control key))
    recv_waits_empty legal = received_waits is_clone v key (cursor_of v.control key) (worded reply.PollRecv stream_reply) r stream_waits refl memory legal

    pub next_waits_empty : IsValidView v → Legal is_clone v (call.PollNext key) r → must_wait r ≡ is_empty_reply (try_recv_reply v (cursor_of v.control key))
    next_waits_empty valid legal =
        let skips : ℕ = skipped_count v.front (cursor_of v.control key) in
        received_waits is_clone v key (skipped_to v.front (cursor_of v.control key)) (worded reply.PollNext (next_reply skips)) r (next_waits skips) refl memory legal
        ∙ skip_same v key (cursor_of v.control key) valid refl

  -- all of them
  pub waits_as_its_try : (is_clone : T → T → Type 0) (v : View T) (c : Call T) (r : Reply T) → IsValidView v → Legal is_clone v c r → is_poll v.control c ≡ true → is_out_of_memory r ≡ false → must_wait r ≡ try_finds_nothing v c
  waits_as_its_try is_clone v (call.PollSend place msg) r valid legal poll memory = send_waits_full is_clone v place msg r poll legal
  waits_as_its_try is_clone v (call.PollFuture key) r valid legal poll memory = future_waits_empty is_clone v key r memory legal
  waits_as_its_try is_clone v (call.PollRecv key) r valid legal poll memory = recv_waits_empty is_clone v key r memory legal
  waits_as_its_try is_clone v (call.PollNext key) r valid legal poll memory = next_waits_empty is_clone v key r memory valid legal
  waits_as_its_try is_clone v c r valid legal poll memory = cc

  pub polls_wait : (is_clone : T → T → Type 0) → PollsWaitWhereTriesFindNothing is_clone
  polls_wait is_clone = record {
    send = send_waits_full is_clone;
    ready = send_waits_unready is_clone;
    future = future_waits_empty is_clone;
    recv = recv_waits_empty is_clone;
    next = λ v key r valid memory legal. next_waits_empty is_clone v key r memory valid legal;
  }
