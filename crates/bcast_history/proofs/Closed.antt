-- A closed channel accepts nothing, so a receiver that has read all of it is given nothing.
use Rattle.std.proofs.Common.{◌≡◌, ◌⊎◌, inl, inr, ℕ, ◌-◌, ◌≤◌, true, false, cond, nat_lt, List, [], ◌++◌, length, slice_get, Option, Some, None, Result, Ok, Err, refl, sym, ap, ◌∙◌, subst, arith, append-nil, IsSomeAnd}
use Rattle.std.specs.declared.alloc.AllocError.{AllocError}
use Rattle.futures.specs.declared.task.Poll.{Poll}
use Rattle.futures.specs.declared.task.Poll.TheVariants as poll
use Rattle.bcast_model.specs.declared.error.TryRecvError.TheVariants as unread
use Rattle.bcast_model.specs.declared.run.Call.{Call}
use Rattle.bcast_model.specs.declared.run.Call.TheVariants as call
use Rattle.bcast_model.specs.declared.run.Reply.{Reply}
use Rattle.bcast_model.specs.declared.run.Reply.TheVariants as reply
use Rattle.bcast_model.specs.declared.run.SendPoll.TheVariants as send
use Rattle.bcast_model.specs.Words.{Found, History, view_of, Legal, next, IsRun, end_number, numbered, IsDelivery, IsGiven, ClonesEqual, has_place, attempt_send_reply}
use Rattle.std.proofs.lemmas.Option.{slice_get_past}
use Rattle.bcast_laws.specs.Sends.{is_accepted, messages_of}
use Rattle.bcast_model.proofs.DeliveryCursors.{closed-next}
use Rattle.bcast_laws.proofs.Closing.{IsClosed, stays_closed}
use Rattle.bcast_laws.proofs.Sends.{messages_added, nothing_added}
use Rattle.bcast_history.specs.History.{Opening, Step, IsHistory, calls_of, replies_of, end_of, accepted_by}
use Rattle.bcast_history.specs.Reader.{Finds, TakesNext}
use Rattle.bcast_history.specs.Tracker.{Tracker, number}
use Rattle.bcast_history.specs.Laws.{HasReadAll, ClosedIsLast, EndIsLast}
use Rattle.bcast_history.specs.Log.{IsWholeLog}
use Rattle.bcast_history.proofs.Logged.{first_kept, logs_are_accepted}
use Rattle.bcast_history.proofs.Prefixes.{IsPrefix, meet, prefix_self}
use Rattle.bcast_history.proofs.Sent.{kept_on}

module _ {T : Type 0} (is_clone : T → T → Type 0) where
  -- a call that sends nothing adds nothing
  no_message : (h : History T) (c : Call T) (r : Reply T) → messages_of c ≡ [] → Legal is_clone (view_of h) c r → (next h c r).accepted ≡ h.accepted
  no_message h c r none legal = elim (is_accepted r) as (λ b. is_accepted r ≡ b → (next h c r).accepted ≡ h.accepted) [
    | true ↦ λ e. messages_added is_clone h c r legal e ∙ ap (λ msgs. h.accepted ++ msgs) none ∙ append-nil h.accepted
    | false ↦ λ e. nothing_added is_clone h c r legal e
  ] refl

  closed_next : (h : History T) (c : Call T) (r : Reply T) → IsClosed h.control → Legal is_clone (view_of h) c r → (next h c r).accepted ≡ h.accepted
  closed_next h (call.TryBroadcast msg) r is legal = nothing_added is_clone h (call.TryBroadcast msg) r legal (ap is_accepted ((stays_closed is_clone).try_broadcast (view_of h) msg r is legal))
  closed_next h (call.TryBroadcastAll msgs) r is legal = nothing_added is_clone h (call.TryBroadcastAll msgs) r legal (ap is_accepted ((stays_closed is_clone).try_broadcast_all (view_of h) msgs r is legal))
  closed_next h (call.AttemptSend msg) r is legal = nothing_added is_clone h (call.AttemptSend msg) r legal (ap is_accepted ((stays_closed is_clone).attempt_send (view_of h) msg r is legal))
  closed_next h (call.PollSend place msg) r is legal = nothing_added is_clone h (call.PollSend place msg) r legal
      (elim (has_place h.control place) as (λ b. has_place h.control place ≡ b → is_accepted r ≡ false) [
        | true ↦ λ known. ap is_accepted ((stays_closed is_clone).poll_send (view_of h) place msg r is known legal)
        | false ↦ λ unknown. ap is_accepted (legal ∙ ap (λ b. reply.PollSend (cond b (attempt_send_reply (view_of h) msg) (send.Wait msg))) unknown)
      ] refl)
  closed_next h c r is legal = no_message h c r refl legal

  -- a closed channel accepts nothing more
  closed_stays : (o : Opening) (closed later : List (Step T)) → (end_of o closed).control.closed ≡ true → IsPrefix closed later → IsHistory is_clone o later
      → IsClosed (end_of o later).control × (accepted_by o later ≡ accepted_by o closed)
  closed_stays o closed later is begins run =
      kept_on (λ h steps. IsRun is_clone h (calls_of steps) (replies_of steps)) (λ h. IsClosed h.control × (h.accepted ≡ accepted_by o closed))
      (λ h step rest run. (run.1, λ was. (closed-next h step.call step.reply was.0, closed_next h step.call step.reply was.0 run.0 ∙ was.1))) o closed later begins run (is, refl)

  pub closed_keeps : (o : Opening) (closed later : List (Step T)) → (end_of o closed).control.closed ≡ true → IsPrefix closed later
      → IsHistory is_clone o later → accepted_by o closed ≡ accepted_by o later
  closed_keeps o closed later is begins run = sym (closed_stays o closed later is begins run).1

  -- all of it was read, and so it stays
  still_all : (o : Opening) (old : Tracker T) (later : List (Step T)) → HasReadAll o old → IsPrefix old.steps later → IsHistory is_clone o later
      → IsClosed (end_of o later).control × (end_number (end_of o later) ≤ number old.next)
  still_all o old later read begins run =
      let same = closed_stays o old.steps later read.closed begins run in
      let before = first_kept o old.steps in
      let after = first_kept o later in
      let size = ap length same.1 in
      let all = read.all in
      (same.0, omega (arith, before, after, size, all))

  -- no message has a number from the end on
  none_after : (h : History T) (number : ℕ) (msg : T) → end_number h ≤ number → IsDelivery is_clone h number (Some msg) → ⊥
  none_after h number msg past there = subst (λ found. IsSomeAnd found (λ accepted. IsGiven is_clone accepted msg)) none there
    where
      none : numbered h number ≡ None
      none = elim (nat_lt number h.first) as (λ b. cond b None (slice_get h.accepted (number - h.first)) ≡ None) [
        | true ↦ refl
        | false ↦ slice_get_past h.accepted (number - h.first) (omega (arith, past))
      ]

  at_end : {now was end : ℕ} → now ≡ was → was ≡ end → end ≤ now
  at_end same is = omega (arith, same, is)

  -- from the end of a closed channel on a receive finds that alone
  ended : (h : History T) (key was now : ℕ) (found : Found T) → IsClosed h.control → end_number h ≤ was → Finds is_clone h key was now found
      → (end_number h ≤ now) × (found ≡ Ok (Err unread.Closed))
  ended h key was now (Err error) closed past (same, shared) = let kept = shared.kept in absurd (omega (arith, past, kept))
  ended h key was now (Ok (Err unread.Closed)) closed past takes = (at_end takes.0 takes.1, refl)
  ended h key was now (Ok (Err unread.Empty)) closed past takes = absurd (cc (closed, takes.2))
  ended h key was now (Ok (Err (unread.Overflowed n))) closed past (some, on, skips, most) = absurd (omega (arith, some, on, most, past))
  ended h key was now (Ok (Ok msg)) closed past takes = absurd (none_after h was msg past takes.0)

  pub closed_is_last : ClosedIsLast is_clone
  closed_is_last = record {
    said = λ o old new takes. record { closed = takes.2; all = at_end takes.0 takes.1 };
    stays = λ o old new found read begins run takes.
        let all = still_all o old new.steps read begins run in
        let last = ended (end_of o new.steps) old.key (number old.next) (number new.next) found all.0 all.1 takes in
        (record { closed = all.0; all = last.0 }, last.1);
  }

  pub end_is_last : EndIsLast is_clone
  end_is_last = record {
    said = λ o old new takes. record { closed = takes.2.2; all = at_end takes.2.0 takes.2.1 };
    stays = stays;
  }
    where
      stays : (o : Opening) (old new : Tracker T) (found : Result (Poll (Option T)) AllocError)
          → HasReadAll o old → IsPrefix old.steps new.steps → IsHistory is_clone o new.steps → TakesNext is_clone o old new found
          → HasReadAll o new × ((found ≡ Ok (poll.Ready None)) ⊎ (error : AllocError) × (found ≡ Err error))
      stays o old new (Err error) read begins run takes =
          let all = still_all o old new.steps read begins run in
          let end = all.1 in
          let on = takes.0 in (record { closed = all.0; all = omega (arith, end, on) }, inr (error, refl))
      stays o old new (Ok (poll.Ready None)) read begins run takes = (record { closed = takes.2.2; all = at_end takes.2.0 takes.2.1 }, inl refl)
      stays o old new (Ok poll.Pending) read begins run takes =
          absurd (cc ((still_all o old new.steps read begins run).0, takes.2.2))
      stays o old new (Ok (poll.Ready (Some msg))) read begins run (at, skips, found) =
          let end = (still_all o old new.steps read begins run).1 in
          let behind = skips.0 in
          absurd (none_after (end_of o new.steps) at msg (omega (arith, end, behind)) found.0)

-- a whole log is all that its channel had accepted, so whole logs of one channel are one list
module _ {T : Type 0} {is_clone : T → T → Type 0} (equal : ClonesEqual is_clone) where
  pub log_is_accepted : {o : Opening} {log : List T} {steps : List (Step T)} → IsWholeLog is_clone o log steps → log ≡ accepted_by o steps
  log_is_accepted {o = o} {log = log} {steps = steps} whole =
      logs_are_accepted is_clone equal o steps steps steps log (prefix_self steps) (prefix_self steps) whole.messages whole.whole

  pub agree : {o : Opening} {log other : List T} {known later : List (Step T)} (both : List (Step T))
      → IsPrefix known both → IsPrefix later both → IsWholeLog is_clone o log known → IsWholeLog is_clone o other later → log ≡ other
  agree {o = o} {known = known} {later = later} both begins too one two = log_is_accepted one ∙ elim (meet known later both begins too) [
    | inl sooner ↦ closed_keeps is_clone o known later one.closed sooner two.run
    | inr after ↦ sym (closed_keeps is_clone o later known two.closed after one.run)
  ] ∙ sym (log_is_accepted two)
