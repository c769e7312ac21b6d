-- What each call gives a receiver, and which messages it keeps.
use Rattle.std.proofs.Common.{◌≡◌, ◌⊎◌, inl, inr, ℕ, ◌+◌, ◌-◌, ◌≤◌, Bool, true, false, [], Option, Some, None, Ok, Err, Result, refl, sym, ap, ◌∙◌, subst, arith, alloc_error, ◌==◌}
use Rattle.std.proofs.lemmas.Bool.{cases_lt, false≢true}
use Rattle.std.proofs.lemmas.Grind.{common_steps}
use Rattle.bcast_model.specs.Words.{TryRecvError, Call, Reply, stream_of, future_of, Cursors}
use Rattle.bcast_model.specs.Words.{cursor_of, History, view_of, front_number, end_number, receive}
use Rattle.bcast_model.specs.Words.{recv_reply, try_recv_reply, is_empty_reply, skipped_count}
use Rattle.bcast_model.specs.Words.{skipped_to, future_reply, stream_reply, next_reply, worded, Found}
use Rattle.bcast_model.specs.Words.{Legal, IsReceivedBy, kept_at, effect, next, receives_for}
use Rattle.bcast_model.specs.Words.{given_by, given_to, View}
use Rattle.bcast_model.specs.declared.error.TryRecvError.TheVariants as unread
use Rattle.bcast_model.specs.declared.run.Call.TheVariants as call
use Rattle.bcast_model.specs.declared.run.Reply.TheVariants as reply
use Rattle.bcast_model.proofs.Answers.{cursors-next}
use Rattle.bcast_model.proofs.DeliveryMaps.{cursors-listens, stands_or_left}
use Rattle.bcast_model.proofs.DeliveryCursors.{changes}
use Rattle.bcast_model.proofs.DeliveryAnswers.{Gives, entries_of, IsAnswer, gives_nothing, gives_answer, ok_err}
use Rattle.bcast_model.proofs.Cases.{test_is, received_is, passed_reply}

pub same_reader : (reader key : ℕ) → (reader == key) ≡ true → reader ≡ key
same_reader reader key reads = grind (arith, common_steps, reads)

module _ {T : Type 0} where
  -- ---- how the calls make their replies
  given_by-try_recv : (answer : Result T TryRecvError) → given_by (reply.TryRecv (Ok answer)) ≡ entries_of 0 answer
  given_by-try_recv (Err (unread.Overflowed n)) = refl
  given_by-try_recv answer = refl

  given_by-future : (answer : Result T TryRecvError) → given_by (reply.PollFuture (Ok (future_reply answer))) ≡ entries_of 0 answer
  given_by-future (Err (unread.Overflowed n)) = refl
  given_by-future answer = refl

  given_by-stream : (answer : Result T TryRecvError) → given_by (reply.PollRecv (Ok (stream_reply answer))) ≡ entries_of 0 answer
  given_by-stream (Err (unread.Overflowed n)) = refl
  given_by-stream answer = refl

  given_by-next : (skips : ℕ) (answer : Result T TryRecvError) → ((n : ℕ) → answer ≡ Err (unread.Overflowed n) → ⊥) → given_by (reply.PollNext (Ok (next_reply skips answer))) ≡ entries_of skips answer
  given_by-next skips (Err (unread.Overflowed n)) reached = absurd (reached n refl)
  given_by-next skips answer reached = refl

  -- from the front on nothing is missed
  pub found_reached : (closed : Bool) (o : Option T) (n : ℕ) → recv_reply closed o ≡ Err (unread.Overflowed n) → ⊥
  found_reached closed (Some msg) n e = cc
  found_reached true None n e = cc
  found_reached false None n e = cc

  received_reached : (v : View T) (cursor n : ℕ) → v.front ≤ cursor → try_recv_reply v (Some cursor) ≡ Err (unread.Overflowed n) → ⊥
  received_reached v cursor n low e = found_reached v.control.closed (kept_at v cursor) n (sym (passed_reply v cursor low) ∙ e)

  answer_reached : (is_clone : T → T → Type 0) (exact answer : Result T TryRecvError) → ((n : ℕ) → exact ≡ Err (unread.Overflowed n) → ⊥) → IsAnswer is_clone exact answer → (n : ℕ) → answer ≡ Err (unread.Overflowed n) → ⊥
  answer_reached is_clone exact answer reached (inl same) n e = reached n (sym same ∙ e)
  answer_reached is_clone exact answer reached (inr (msg, given, was, copy, same)) n e = ok_err given (unread.Overflowed n) (sym e ∙ same)

  -- ---- a receive, by its cursors after each reply
  gives_reply : (is_clone : T → T → Type 0) (h : History T) (key cursor skips : ℕ) (o : Option ℕ) (cursors_after : Reply T → Cursors) (spelt : Found T → Reply T) (r : Reply T)
      → h.first ≤ h.floor → cursor_of h.control key ≡ Some cursor → o ≡ Some (cursor + skips) → (skips ≡ 0) ⊎ (cursor + skips ≡ front_number h)
      → ((answer : Result T TryRecvError) → cursors_after (spelt (Ok answer)) ≡ (receive (view_of h) key o).cursors) → cursors_after (spelt (Err alloc_error)) ≡ h.control.cursors
      → ((answer : Result T TryRecvError) → IsAnswer is_clone (try_recv_reply (view_of h) o) answer → given_by (spelt (Ok answer)) ≡ entries_of skips answer) → given_by (spelt (Err alloc_error)) ≡ []
      → IsReceivedBy is_clone (view_of h) key o spelt r → Gives is_clone h key cursor (cursors_after r) (given_by r)
  gives_reply is_clone h key cursor skips o cursors_after spelt r low is at exact moved kept spells none legal =
      received_is (λ r. Gives is_clone h key cursor (cursors_after r) (given_by r)) is_clone (view_of h) key o spelt r legal
      (each (try_recv_reply (view_of h) o) (inl refl)) (λ _ msg given was copy. each (Ok given) (inr (msg, given, was, copy, refl))) (λ _. rw (kept, none) (gives_nothing h key cursor h.control.cursors (inl is)))
    where
      each : (answer : Result T TryRecvError) → IsAnswer is_clone (try_recv_reply (view_of h) o) answer → Gives is_clone h key cursor (cursors_after (spelt (Ok answer))) (given_by (spelt (Ok answer)))
      each answer given = rw (moved answer, spells answer given) (subst (λ o. Gives is_clone h key cursor (receive (view_of h) key o).cursors (entries_of skips answer)) (sym at)
          (gives_answer h key cursor skips answer low is exact (subst (λ o. IsAnswer is_clone (try_recv_reply (view_of h) o) answer) at given)))

  gives_next : (is_clone : T → T → Type 0) (h : History T) (key cursor : ℕ) (r : Reply T) → h.first ≤ h.floor → cursor_of h.control key ≡ Some cursor → Legal is_clone (view_of h) (call.PollNext key) r
      → Gives is_clone h key cursor (effect (view_of h) (call.PollNext key) r).control.cursors (given_by r)
  gives_next is_clone h key cursor r low is legal =
      let front = front_number h in
      let own : Option ℕ = cursor_of h.control key in
      let skips = front_number h - cursor in
      let at : skipped_to front own ≡ Some (cursor + skips) = ap (skipped_to front) is ∙ ap Some (omega arith) in
      let past : front_number h ≤ cursor + skips = omega arith in
      gives_reply is_clone h key cursor skips (skipped_to front own) (λ r. (effect (view_of h) (call.PollNext key) r).control.cursors) (worded reply.PollNext (next_reply (skipped_count front own))) r low is at
      (elim (cases_lt front cursor) [ inl e ↦ inl (omega (arith, e)) | inr e ↦ inr (omega (arith, e)) ])
      (λ answer. cursors-listens (receive (view_of h) key (skipped_to front own)) (stream_of key) (is_empty_reply (try_recv_reply (view_of h) (skipped_to front own)))) refl
      (λ answer given. given_by-next (skipped_count front own) answer (answer_reached is_clone _ answer (λ n e. received_reached (view_of h) (cursor + skips) n past (sym (ap (try_recv_reply (view_of h)) at) ∙ e)) given)
      ∙ ap (λ o. entries_of (skipped_count front o) answer) is) refl legal

  gives_received : (is_clone : T → T → Type 0) (h : History T) (key cursor : ℕ) (c : Call T) (r : Reply T) → h.first ≤ h.floor → cursor_of h.control key ≡ Some cursor → receives_for key c ≡ true → Legal is_clone (view_of h) c r
      → Gives is_clone h key cursor (effect (view_of h) c r).control.cursors (given_by r)
  gives_received is_clone h key cursor (call.TryRecv reader) r low is reads legal = let same = same_reader reader key reads in
      rw same (gives_reply is_clone h key cursor 0 (cursor_of h.control key) (λ r. (effect (view_of h) (call.TryRecv key) r).control.cursors) reply.TryRecv r low is (is ∙ ap Some (omega arith)) (inl refl)
      (λ answer. refl) refl (λ answer _. given_by-try_recv answer) refl (rw same at legal))
  gives_received is_clone h key cursor (call.PollFuture reader) r low is reads legal = let same = same_reader reader key reads in
      rw same (gives_reply is_clone h key cursor 0 (cursor_of h.control key) (λ r. (effect (view_of h) (call.PollFuture key) r).control.cursors)
      (worded reply.PollFuture future_reply) r low is (is ∙ ap Some (omega arith)) (inl refl)
      (λ answer. cursors-listens (receive (view_of h) key (cursor_of h.control key)) (future_of key) (is_empty_reply (try_recv_reply (view_of h) (cursor_of h.control key)))) refl (λ answer _. given_by-future answer) refl (rw same at legal))
  gives_received is_clone h key cursor (call.PollRecv reader) r low is reads legal = let same = same_reader reader key reads in
      rw same (gives_reply is_clone h key cursor 0 (cursor_of h.control key) (λ r. (effect (view_of h) (call.PollRecv key) r).control.cursors)
      (worded reply.PollRecv stream_reply) r low is (is ∙ ap Some (omega arith)) (inl refl)
      (λ answer. cursors-listens (receive (view_of h) key (cursor_of h.control key)) (stream_of key) (is_empty_reply (try_recv_reply (view_of h) (cursor_of h.control key)))) refl (λ answer _. given_by-stream answer) refl (rw same at legal))
  gives_received is_clone h key cursor (call.PollNext reader) r low is reads legal = let same = same_reader reader key reads in rw same (gives_next is_clone h key cursor r low is (rw same at legal))
  gives_received is_clone h key cursor c r low is reads legal = absurd (false≢true reads)

  -- what each call gives each receiver
  pub gives_call : (is_clone : T → T → Type 0) (h : History T) (key cursor : ℕ) (c : Call T) (r : Reply T) → h.first ≤ h.floor → cursor_of h.control key ≡ Some cursor → Legal is_clone (view_of h) c r
      → Gives is_clone h key cursor (next h c r).control.cursors (given_to key c r)
  gives_call is_clone h key cursor c r low is legal =
      rw (cursors-next h c r)
      (test_is (Gives is_clone h key cursor (effect (view_of h) c r).control.cursors) (receives_for key c) (given_by r) []
      (λ reads. gives_received is_clone h key cursor c r low is reads legal)
      (λ reads. gives_nothing h key cursor (effect (view_of h) c r).control.cursors
      (stands_or_left (front_number h) (end_number h) (λ key. receives_for key c) h.control.cursors (effect (view_of h) c r).control.cursors key cursor (changes is_clone (view_of h) c r).cursors legal reads is)))
