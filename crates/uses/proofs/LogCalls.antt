-- A read of a log, and one more reader.
use Rattle.std.proofs.Common.{◌≡◌, inl, inr, ℕ, ◌+◌, ◌-◌, ◌<◌, ◌≤◌, Bool, true, false, [], ◌∷◌, drop, length, Option, Some, None, Result, Ok, Err, IfOk, refl, sym, ap, ◌∙◌, subst, arith, IsOk}
use Rattle.std.proofs.lemmas.List.{drop_more, drop_all}
use Rattle.std.proofs.lemmas.Option.{slice_get_cases, slice_get_past}
use Rattle.std.specs.FinMap.{get}
use Rattle.bcast_model.specs.declared.run.Call.TheVariants as call
use Rattle.bcast_model.specs.declared.run.Reply.{Reply}
use Rattle.bcast_model.specs.declared.error.HandleError.{HandleError}
use Rattle.bcast_model.specs.declared.error.TryRecvError.{TryRecvError}
use Rattle.bcast_model.specs.Words.{Found, Control, Listeners, cursor_of, with_cursor, sets}
use Rattle.bcast_model.specs.Words.{recv_reply, receive, try_recv_reply, NoClone, ClonesEqual}
use Rattle.bcast_model.specs.Words.{settle, View, kept_at, Answers, IsValidView}
use Rattle.bcast_model.specs.declared.run.Reply.TheVariants as reply
use Rattle.bcast_model.proofs.Cases.{receive_is, received_is, uncloned, passed_reply}
use Rattle.bcast_model.proofs.Clones.{answers_exact}
use Rattle.bcast_core.proofs.Settle.{settle_same}
use Rattle.uses.specs.Log.{kept_from, unread, record_of, IsLog, IsRead, KeepsReaders}
use Rattle.uses.specs.Reading.{IsTaken, IsAdded}
use Rattle.uses.proofs.Called.{with_sends, valid, after, unchanged}
use Rattle.uses.proofs.Logs.{reads_from}
use Rattle.uses.proofs.Rooms.{cloned}

module _ {T : Type 0} where
  -- ---- `try_recv`
  abbrev item_of : Result T TryRecvError → Option T
  item_of received = record_of (Ok received)

  module _ (v : View T) (key : ℕ) (sends : Listeners ℕ) (log : IsLog v) (valid : IsValidView v) where
    abbrev Leaves : Option ℕ → Control → Type 0
    Leaves cursor c = IsTaken v (with_sends (settle v (sets c)) sends) key (item_of (try_recv_reply v cursor))

    -- nothing is read
    reads_none : (cursor : Option ℕ) → item_of (try_recv_reply v cursor) ≡ None → unread v key ≡ [] → Leaves cursor v.control
    reads_none cursor none empty =
        subst (λ u. IsTaken v (with_sends u sends) key (item_of (try_recv_reply v cursor))) (sym (settle_same v valid))
        (subst (IsTaken v (with_sends v sends) key) (sym none) (record { log = record { overflow = log.overflow; reach = log.reach }; first = tt; none = empty; others = λ other differs. refl; readers = λ other is. is }))

    item_found : (closed : Bool) (o : Option T) → item_of (recv_reply closed o) ≡ o
    item_found closed (Some item) = refl
    item_found closed None = refl

    item_at : (cursor : ℕ) → v.front ≤ cursor → item_of (try_recv_reply v (Some cursor)) ≡ kept_at v cursor
    item_at cursor low = ap item_of (passed_reply v cursor low) ∙ item_found v.control.closed (kept_at v cursor)

    -- the first of what is unread is read
    reads_first : (cursor : ℕ) → get v.control.cursors key ≡ Some cursor → v.front ≤ cursor → cursor < v.end → Leaves (Some cursor) (with_cursor v.control key (cursor + 1))
    reads_first cursor at low high =
        let next = reads_from v key (cursor + 1) sends log (omega (arith, low)) in
        elim (slice_get_cases v.queue (cursor - v.front)).1 [
          | inl some ↦
              let more : (cursor + 1) - v.front ≡ (cursor - v.front) + 1 = omega (arith, low) in
              let first : unread v key ≡ some.0 ∷ unread (with_sends (settle v (sets (with_cursor v.control key (cursor + 1)))) sends) key =
              ap (kept_from v) at ∙ drop_more v.queue (cursor - v.front) some.0 some.1
              ∙ ap (λ x. x ∷ drop ((cursor - v.front) + 1) v.queue) some.3
              ∙ ap (λ n. some.0 ∷ drop n v.queue) (sym more) ∙ ap (λ items. some.0 ∷ items) (sym next.own) in
              subst (IsTaken v (with_sends (settle v (sets (with_cursor v.control key (cursor + 1)))) sends) key) (sym (item_at cursor low ∙ some.2))
              (record { log = next.log; first = first; none = tt; others = next.others; readers = next.readers })
          | inr past ↦ (let end = valid.end in let short = past.0 in absurd (omega (arith, end, short, high)))
        ]

    reads_at : (o : Option ℕ) → get v.control.cursors key ≡ o → Leaves o (receive v key o)
    reads_at None at = reads_none None refl (ap (kept_from v) at)
    reads_at (Some cursor) at =
        let low = log.reach key cursor at in
        receive_is v (Leaves (Some cursor)) key cursor
        (λ lags. absurd (omega (arith, low, lags)))
        (λ _ high. reads_first cursor at low high)
        (λ _ late.
        let end = valid.end in
        let short : length v.queue ≤ cursor - v.front = omega (arith, end, late) in
        reads_none (Some cursor) (item_at cursor low ∙ slice_get_past v.queue (cursor - v.front) short) (ap (kept_from v) at ∙ drop_all (cursor - v.front) v.queue short))

  pub reads : {is_clone : T → T → Type 0} {v w : View T} {key : ℕ} → ClonesEqual is_clone → (result : Found T) → IsOk result
      → Answers is_clone v (call.TryRecv key) (reply.TryRecv result) w → IsLog v → IsTaken v w key (record_of result) × IsRead v key (record_of result) w
  reads {is_clone = is_clone} {v = v} {w = w} {key = key} equal (Ok received) sure a log =
      let o : Option ℕ = cursor_of v.control key in
      let b = answers_exact equal a in
      let exact : received ≡ try_recv_reply v o =
      received_is (λ (r : Reply T). r ≡ reply.TryRecv (Ok received) → received ≡ try_recv_reply v o) NoClone v key o reply.TryRecv (reply.TryRecv (Ok received)) b.legal
      (λ e. cc) (λ _ msg given was none e. absurd none) (λ _ e. absurd (cc)) refl in (
        after a (λ u. IsTaken v u key (item_of received))
            (λ sends. subst (λ r. IsTaken v (with_sends (settle v (sets (receive v key o))) sends) key (item_of r)) (sym exact) (reads_at v key sends log (valid a) o refl)),
        record { received = received; item = refl; answers = b },
      )
  reads equal (Err error) sure a log = absurd (let e : false ≡ true = sure in cc)

  -- ---- `clone`: a reader is added, or nothing changes
  pub adds : {is_clone : T → T → Type 0} {v w : View T} {key : ℕ} {result : Result ℕ HandleError} → Answers is_clone v (call.CloneReceiver key) (reply.CloneReceiver result) w → IsLog v
      → IsLog w × KeepsReaders v w × IfOk result (λ made. IsAdded v w made (unread v key))
  adds {key = key} {result = Ok made} a log = let s = cloned key made a log in (s.log, s.readers, s)
  adds {v = v} {w = w} {key = key} {result = Err error} a log =
      let same : w ≡ v = unchanged a (ap (λ c. sets c) (uncloned v.control (cursor_of v.control key))) in
      subst (λ u. IsLog u × KeepsReaders v u × Unit {0}) (sym same) (log, (λ other is. is), tt)
