-- How many messages are kept. A closed channel stays closed, each send on it is refused, and if it
-- keeps no message, it gives its receivers nothing.
use Rattle.std.proofs.Common.{◌≡◌, true, List, ◌∷◌, ◌&&◌, cond, length, Ok, Err, ap, ◌∙◌, inl, inr, ℕ, ◌-◌, ◌≤◌, ◌==◌, max, Option, Some, None, refl, sym, arith, [], map}
use Rattle.std.proofs.lemmas.Grind.{common_steps}
use Rattle.std.proofs.lemmas.Bool.{and_parts}
use Rattle.std.proofs.lemmas.Option.{slice_get_past}
use Rattle.std.proofs.lemmas.List.{nil_from_length}
use Rattle.std.specs.FinMap.{len, values, entries, len-entries}
use Rattle.bcast_laws.specs.Closing.{StaysClosed, AnswersClosed}
use Rattle.bcast_model.specs.declared.run.Call.{Call}
use Rattle.bcast_model.specs.declared.run.Reply.{Reply}
use Rattle.bcast_model.specs.Words.{Control, History, next, end_of_run, View}
use Rattle.bcast_model.specs.Words.{cursor_of, IsValidView}
use Rattle.bcast_model.specs.Words.{recv_reply, skipped_count, skipped_to, future_reply}
use Rattle.bcast_model.specs.Words.{stream_reply, next_reply, try_recv_reply, Legal, IsReceivedBy}
use Rattle.bcast_model.specs.Words.{Found, worded, least}
use Rattle.bcast_model.specs.declared.run.Reply.TheVariants as reply
use Rattle.bcast_model.proofs.DeliveryCursors.{closed-next}
use Rattle.bcast_model.specs.declared.error.TryRecvError.TheVariants as unread
use Rattle.bcast_model.specs.declared.run.Call.TheVariants as call
use Rattle.bcast_model.proofs.Cases.{passed_reply}

abbrev pub IsClosed : Control → Type 0
IsClosed c = c.closed ≡ true

pub run_stays : {T : Type 0} (h : History T) (calls : List (Call T)) (replies : List (Reply T)) → IsClosed h.control → IsClosed (end_of_run h calls replies).control
run_stays h (c ∷ calls) (r ∷ replies) is = run_stays (next h c r) calls replies (closed-next h c r is)
run_stays h calls replies is = is

module _ {T : Type 0} where
  pub stays_closed : (is_clone : T → T → Type 0) → StaysClosed is_clone
  stays_closed is_clone = record {
    stays = run_stays;
    try_broadcast = λ v msg r is legal. legal ∙ rw is refl;
    try_broadcast_all = λ v msgs r is legal. legal ∙ rw is refl;
    attempt_send = λ v msg r is legal. legal ∙ rw is refl;
    poll_send = λ v place msg r is known legal. legal ∙ rw (known, is) refl;
  }

  closed_at : (v : View T) (cursor : ℕ) → IsValidView v → v.control.closed ≡ true → v.end ≤ cursor → try_recv_reply v (Some cursor) ≡ Err unread.Closed
  closed_at v cursor valid closed past =
      passed_reply v cursor (omega (arith, valid.high, past))
      ∙ ap (recv_reply v.control.closed) (slice_get_past v.queue (cursor - v.front) (omega (arith, past, valid.end)))
      ∙ ap (λ b. Err (cond b unread.Closed unread.Empty)) closed

  terminated : (is_clone : T → T → Type 0) (v : View T) → Legal is_clone v call.IsTerminated (reply.IsTerminated true) → (v.control.closed ≡ true) × (length v.queue ≡ 0)
  terminated is_clone v legal =
      let same : true ≡ (v.control.closed && (length v.queue == 0)) = cc in
      let is = and_parts v.control.closed (length v.queue == 0) (sym same) in
      (is.0, let e = is.1 in grind (arith, common_steps, e))

  module _ (v : View T) (key : ℕ) (valid : IsValidView v) (closed : v.control.closed ≡ true) (none : length v.queue ≡ 0) where
    read_all : (cursor : ℕ) → cursor_of v.control key ≡ Some cursor → v.end ≤ cursor
    read_all cursor at = valid.caught_up key cursor (nil_from_length v.queue none) at

    closed_own : (cursor : Option ℕ) → cursor_of v.control key ≡ cursor → try_recv_reply v cursor ≡ Err unread.Closed
    closed_own None at = refl
    closed_own (Some cursor) at = closed_at v cursor valid closed (read_all cursor at)

    closed_skipping : (cursor : Option ℕ) → cursor_of v.control key ≡ cursor → try_recv_reply v (skipped_to v.front cursor) ≡ Err unread.Closed
    closed_skipping None at = refl
    closed_skipping (Some cursor) at = (let past = read_all cursor at in closed_at v (max cursor v.front) valid closed (omega (arith, past)))

    -- no message is owed if none is kept
    answers_closed : (is_clone : T → T → Type 0) (cursor : Option ℕ) (spelt : Found T → Reply T) (r : Reply T) → try_recv_reply v cursor ≡ Err unread.Closed
        → IsReceivedBy is_clone v key cursor spelt r → r ≡ spelt (Ok (Err unread.Closed))
    answers_closed is_clone cursor spelt r exact (inl same) = same ∙ ap (λ answer. spelt (Ok answer)) exact
    answers_closed is_clone cursor spelt r exact (inr (owed, other)) =
        let size = valid.end in let from = owed.kept.0 in let under = owed.kept.1 in absurd (omega (arith, size, none, from, under))

  pub nothing_given : (is_clone : T → T → Type 0) (v : View T) (key : ℕ) (r : Reply T) → IsValidView v → Legal is_clone v call.IsTerminated (reply.IsTerminated true) → AnswersClosed is_clone v key r
  nothing_given is_clone v key r valid legal =
      let is = terminated is_clone v legal in
      let own = closed_own v key valid is.0 is.1 (cursor_of v.control key) refl in
      let skip : Option ℕ = skipped_to v.front (cursor_of v.control key) in
      let skips : ℕ = skipped_count v.front (cursor_of v.control key) in
      record {
        try_recv = λ received. answers_closed v key valid is.0 is.1 is_clone (cursor_of v.control key) reply.TryRecv r own received;
        poll_future = λ received. answers_closed v key valid is.0 is.1 is_clone (cursor_of v.control key) (worded reply.PollFuture future_reply) r own received;
        poll_recv = λ received. answers_closed v key valid is.0 is.1 is_clone (cursor_of v.control key) (worded reply.PollRecv stream_reply) r own received;
        poll_next = λ received. answers_closed v key valid is.0 is.1 is_clone skip (worded reply.PollNext (next_reply skips)) r (closed_skipping v key valid is.0 is.1 (cursor_of v.control key) refl) received;
      }

  pub none_kept : (v : View T) → IsValidView v → len v.control.cursors ≡ 0 → v.queue ≡ []
  none_kept v valid none =
      let count = len-entries v.control.cursors in
      let all : least v.end (values v.control.cursors) ≡ v.end = ap (λ es. least v.end (map (λ e. e.1) es)) (nil_from_length (entries v.control.cursors) (omega (arith, count, none))) in
      nil_from_length v.queue (omega (arith, all, valid.low, valid.end))

  pub len_within : (is_clone : T → T → Type 0) (v : View T) (n capacity : ℕ) → IsValidView v → Legal is_clone v call.Len (reply.Len n) → Legal is_clone v call.Capacity (reply.Capacity capacity) → n ≤ capacity
  len_within is_clone v n capacity valid is at =
      let count : n ≡ length v.queue = cc in
      let room : capacity ≡ v.control.capacity = cc in
      omega (arith, count, room, valid.fits)
