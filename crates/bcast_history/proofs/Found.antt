-- What a receive finds, by where its receiver reads on.
use Rattle.std.proofs.Common.{◌≡◌, inl, inr, ℕ, ◌+◌, ◌-◌, ◌<◌, ◌≤◌, true, false, cond, if◌then◌else◌, nat_lt, List, [], ◌∷◌, ◌++◌, length, Option, Some, None, Result, Ok, Err, alloc_error, refl, sym, ap, ◌∙◌, subst, arith, append-nil, IsSomeAnd}
use Rattle.std.proofs.lemmas.Bool.{cases_lt}
use Rattle.std.proofs.lemmas.Grind.{common_steps}
use Rattle.std.proofs.lemmas.Option.{slice_get_within}
use Rattle.std.specs.FinMap.{get}
use Rattle.bcast_model.specs.declared.error.TryRecvError.{TryRecvError}
use Rattle.bcast_model.specs.declared.error.TryRecvError.TheVariants as unread
use Rattle.bcast_model.specs.declared.run.Call.{Call}
use Rattle.bcast_model.specs.declared.run.Reply.{Reply}
use Rattle.bcast_model.specs.Words.{History, View, view_of, next, effect, Effect, IsValid, IsValidView, Found, IsReceivedBy, IsGiven, IsOwed, front_number, end_number, cursor_of, with_cursor, kept_at, receive, recv_reply, try_recv_reply, Control, Cursors}
use Rattle.bcast_model.proofs.Cases.{test_is, next_is, received_is, lagging_reply, passed_reply, lagging_receive, passed_receive}
use Rattle.bcast_model.proofs.Views.{valid_view, first_under, front-le-cursor, numbered-queue}
use Rattle.bcast_model.proofs.Answers.{cursors-next}
use Rattle.bcast_model.proofs.DeliveryAnswers.{IsAnswer, ok_err}
use Rattle.bcast_model.proofs.DeliveryLists.{past_end}
use Rattle.bcast_model.proofs.DeliveryMaps.{inserted}
use Rattle.bcast_model.proofs.DeliveryLemmas.{numbered_stays}
use Rattle.bcast_history.specs.Reader.{Finds}

module _ {T : Type 0} where
  -- telling a sender closes nothing
  pub closed_after : (h : History T) (c : Call T) (r : Reply T) → (next h c r).control.closed ≡ (effect (view_of h) c r).control.closed
  closed_after h c r = next_is (λ now. now.closed ≡ (effect (view_of h) c r).control.closed) h c r refl refl

  -- what is seen of a call that accepts no message, and of the receivers as under this control
  abbrev pub Shows : Effect T → Control → Type 0
  Shows e c = (e.accepted ≡ []) × (e.control.cursors ≡ c.cursors) × (e.control.closed ≡ c.closed)

module _ {T : Type 0} (is_clone : T → T → Type 0) where
  -- a reader lags, or is given a message, itself or a clone, or has read all
  module _
      (P : Result T TryRecvError → Control → Type 0) (v : View T) (key cursor : ℕ) (valid : IsValidView v)
      (lags : cursor < v.front → P (Err (unread.Overflowed (v.front - cursor))) (with_cursor v.control key v.front))
      (gives : (msg given : T) → v.front ≤ cursor → kept_at v cursor ≡ Some msg → IsGiven is_clone msg given → P (Ok given) (with_cursor v.control key (cursor + 1)))
      (ends : v.end ≤ cursor → P (Err (if v.control.closed then unread.Closed else unread.Empty)) v.control) where
    passed : (o : Option T) (answer : Result T TryRecvError) → v.front ≤ cursor → kept_at v cursor ≡ o → IsAnswer is_clone (recv_reply v.control.closed o) answer
        → P answer (cond (nat_lt cursor v.end) (with_cursor v.control key (cursor + 1)) v.control)
    passed None answer from is (inl e) =
        let none = past_end v.queue (cursor - v.front) is in
        let end = valid.end in
        let last : v.end ≤ cursor = omega (arith, none, end, from) in
        let past : nat_lt cursor v.end ≡ false = grind (arith, common_steps, last) in
        rw (e, past) (ends last)
    passed None answer from is (inr (msg, given, was, copy, e)) = ok_err msg _ was
    passed (Some msg) answer from is given =
        let within = slice_get_within v.queue (cursor - v.front) msg is in
        let end = valid.end in
        let below : cursor < v.end = omega (arith, within, end, from) in
        let some : nat_lt cursor v.end ≡ true = grind (arith, common_steps, below) in
        elim given [
          | inl e ↦ rw (e, some) (gives msg msg from is (inl refl))
          | inr (original, copied, same, copy, e) ↦
              let one : original ≡ msg = cc (same) in
              rw (e, some) (gives msg copied from is (inr (subst (λ m. is_clone m copied) one copy)))
        ]

    pub answers_at : (answer : Result T TryRecvError) → IsAnswer is_clone (try_recv_reply v (Some cursor)) answer → P answer (receive v key (Some cursor))
    answers_at answer given = elim (cases_lt cursor v.front) [
      | inl below ↦
          let is : answer ≡ Err (unread.Overflowed (v.front - cursor)) = elim (subst (λ exact. IsAnswer is_clone exact answer) (lagging_reply v cursor below) given) [ inl e ↦ e | inr (msg, x, was, copy, e) ↦ ok_err msg _ was ] in
          rw (lagging_receive v key cursor below, is) (lags below)
      | inr from ↦
          rw (passed_receive v key cursor from) (passed (kept_at v cursor) answer from refl (subst (λ exact. IsAnswer is_clone exact answer) (passed_reply v cursor from) given))
    ]

  -- where a receiver reads on after this call that read on there, and what it finds
  abbrev pub FoundAt : History T → ℕ → Call T → Reply T → ℕ → Found T → Type 0
  FoundAt h key c r was found =
      (now : ℕ) × (cursor_of (next h c r).control key ≡ Some now) × Finds is_clone (next h c r) key was now found

  module _
      (h : History T) (key was : ℕ) (c : Call T) (valid : IsValid h)
      (there : cursor_of h.control key ≡ Some was) where
    -- what it finds, if the call is seen to leave the receivers so
    abbrev Leaves : Control → Found T → Type 0
    Leaves now found = (r : Reply T) → Shows (effect (view_of h) c r) now → FoundAt h key c r was found

    same_end : (r : Reply T) → (effect (view_of h) c r).accepted ≡ [] → end_number (next h c r) ≡ end_number h
    same_end r none = ap (λ (msgs : List T). h.first + length (h.accepted ++ msgs)) none ∙ ap (λ (msgs : List T). h.first + length msgs) (append-nil h.accepted)

    reads : (r : Reply T) (other : ℕ) {at : ℕ} {cursors : Cursors} → (effect (view_of h) c r).control.cursors ≡ cursors → get cursors other ≡ Some at → cursor_of (next h c r).control other ≡ Some at
    reads r other same is = ap (λ (cursors : Cursors). get cursors other) (cursors-next h c r ∙ same) ∙ is

    lagged : was < front_number h → Leaves (with_cursor h.control key (front_number h)) (Ok (Err (unread.Overflowed (front_number h - was))))
    lagged below r shows =
        let front = front-le-cursor h key was there in
        let high = (valid_view h valid).high in
        let end = same_end r shows.0 in
        let grows : h.floor ≤ (next h c r).floor = omega arith in (
          front_number h,
          reads r key shows.1 (inserted h.control.cursors key (front_number h)),
          (omega (arith, below), omega (arith, below), (omega (arith, below), λ number from under. omega (arith, front, below, under, grows)), omega (arith, high, end)),
        )

    given : (msg copied : T) → front_number h ≤ was → kept_at (view_of h) was ≡ Some msg → IsGiven is_clone msg copied → Leaves (with_cursor h.control key (was + 1)) (Ok (Ok copied))
    given msg copied from is copy r shows =
        let stays = numbered_stays h (c ∷ []) (r ∷ []) was msg (numbered-queue h was (first_under h valid.floor_low) from ∙ is) in (
          was + 1,
          reads r key shows.1 (inserted h.control.cursors key (was + 1)),
          (subst (λ o. IsSomeAnd o (λ accepted. IsGiven is_clone accepted copied)) (sym stays) copy, refl),
        )

    read_all : end_number h ≤ was → Leaves h.control (Ok (Err (if h.control.closed then unread.Closed else unread.Empty)))
    read_all past r shows =
        let end = same_end r shows.0 in
        let reach = (valid.cursors key was there).1 in
        let last : was ≡ end_number (next h c r) = omega (arith, past, reach, end) in
        let closed = closed_after h c r ∙ shows.2 in
        test_is (λ e. FoundAt h key c r was (Ok (Err e))) h.control.closed unread.Closed unread.Empty
        (λ is. (was, reads r key shows.1 there, (refl, last, closed ∙ is))) (λ is. (was, reads r key shows.1 there, (refl, last, closed ∙ is)))

    refused : IsOwed (view_of h) key (cursor_of h.control key) → Leaves h.control (Err alloc_error)
    refused owed r shows =
        let same : owed.number ≡ was = cc (owed.at, there) in
        let kept = owed.kept.1 in
        let behind = owed.owes.1 in
        let end = same_end r shows.0 in (
          was,
          reads r key shows.1 there,
          (
            refl,
            record {
              other = owed.other;
              differs = owed.differs;
              cursor = owed.behind;
              there = reads r owed.other shows.1 owed.owes.0;
              behind = omega (arith, behind, same);
              kept = omega (arith, kept, same, end);
            },
          ),
        )

    answered : (answer : Result T TryRecvError) → IsAnswer is_clone (try_recv_reply (view_of h) (cursor_of h.control key)) answer → Leaves (receive (view_of h) key (cursor_of h.control key)) (Ok answer)
    answered = subst (λ o. (answer : Result T TryRecvError) → IsAnswer is_clone (try_recv_reply (view_of h) o) answer → Leaves (receive (view_of h) key o) (Ok answer)) (sym there)
        (answers_at (λ answer now. Leaves now (Ok answer)) (view_of h) key was (valid_view h valid) lagged given read_all)

    -- what it finds by a reply that is spelt so, and from which that can be read
    pub finds : (spelt : Found T → Reply T) (found_in : Reply T → Found T)
        → ((answer : Result T TryRecvError) → found_in (spelt (Ok answer)) ≡ Ok answer) → found_in (spelt (Err alloc_error)) ≡ Err alloc_error
        → ((answer : Result T TryRecvError) → Shows (effect (view_of h) c (spelt (Ok answer))) (receive (view_of h) key (cursor_of h.control key))) → Shows (effect (view_of h) c (spelt (Err alloc_error))) h.control
        → (r : Reply T) → IsReceivedBy is_clone (view_of h) key (cursor_of h.control key) spelt r → FoundAt h key c r was (found_in r)
    finds spelt found_in back none moves stays r legal =
        received_is (λ r. FoundAt h key c r was (found_in r)) is_clone (view_of h) key (cursor_of h.control key) spelt r legal
        (each (try_recv_reply (view_of h) (cursor_of h.control key)) (inl refl)) (λ _ msg copied is copy. each (Ok copied) (inr (msg, copied, is, copy, refl)))
        (λ owed. subst (FoundAt h key c (spelt (Err alloc_error)) was) (sym none) (refused owed (spelt (Err alloc_error)) stays))
      where
        each : (answer : Result T TryRecvError) → IsAnswer is_clone (try_recv_reply (view_of h) (cursor_of h.control key)) answer → FoundAt h key c (spelt (Ok answer)) was (found_in (spelt (Ok answer)))
        each answer is = subst (FoundAt h key c (spelt (Ok answer)) was) (sym (back answer)) (answered answer is (spelt (Ok answer)) (moves answer))
