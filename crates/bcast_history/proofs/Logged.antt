-- A log with more messages, and a whole one.
use Rattle.std.proofs.Common.{◌≡◌, ◌⊎◌, inl, inr, ℕ, ◌+◌, ◌-◌, false, cond, List, [], ◌∷◌, ◌++◌, length, drop, slice_get, nat_lt, Option, Some, None, Ok, Err, refl, sym, ap, ◌∙◌, subst, arith, length-append, IsSomeAnd}
use Rattle.std.proofs.lemmas.Grind.{common_steps}
use Rattle.std.proofs.lemmas.List.{drop_more}
use Rattle.std.proofs.lemmas.Option.{slice_get_within, get_or_from_slice_get}
use Rattle.std.specs.declared.alloc.AllocError.{AllocError}
use Rattle.bcast_model.specs.declared.error.TryRecvError.TheVariants as unread
use Rattle.bcast_model.specs.declared.run.Call.{Call}
use Rattle.bcast_model.specs.declared.run.Reply.{Reply}
use Rattle.bcast_model.specs.Words.{History, IsGiven, ClonesEqual, numbered, next}
use Rattle.bcast_model.proofs.DeliveryLists.{all_from_append, all_from_more}
use Rattle.bcast_core.proofs.Runs.{all_made}
use Rattle.bcast_history.specs.History.{Opening, Step, IsHistory, end_of}
use Rattle.bcast_history.proofs.Prefixes.{IsPrefix, prefix_shorter}
use Rattle.bcast_history.specs.Log.{IsLog, IsWholeLog, LogsAreAccepted}
use Rattle.bcast_history.specs.Batch.{AreDeliveries, TakesInto}
use Rattle.bcast_history.specs.Makes.{ReceivesOnce}
use Rattle.bcast_history.specs.Reader.{Takes}
use Rattle.bcast_history.specs.Tracker.{Tracker, number}
use Rattle.bcast_history.proofs.Sent.{kept_later, delivery_stays, accepted_grows}

module _ {T : Type 0} (is_clone : T → T → Type 0) where
  -- it stays delivered
  still_log : (o : Opening) (known later : List (Step T)) (start : ℕ) (log : List T) → IsPrefix known later
      → AreDeliveries is_clone (end_of o known) start log → AreDeliveries is_clone (end_of o later) start log
  still_log o known later start log begins = all_from_more _ _ start log (λ number msg _. delivery_stays is_clone o known later number msg begins)

  pub longer : {o : Opening} {count : ℕ} {log more : List T} {old new : Tracker T} → IsLog is_clone o log old
      → IsPrefix old.steps new.steps → TakesInto is_clone o old log count more new → IsLog is_clone o more new
  longer {o = o} {log = log} {more = more} {old = old} {new = new} so_far begins takes =
      let h = end_of o new.steps in
      let given = subst (λ n. AreDeliveries is_clone h n takes.given) so_far.next takes.messages in
      let size = ap length takes.put ∙ length-append log takes.given in
      record {
        messages = subst (AreDeliveries is_clone h o.first_number) (sym takes.put)
            (all_from_append _ o.first_number log takes.given (still_log o old.steps new.steps o.first_number log begins so_far.messages) given);
        next = omega (arith, so_far.next, takes.next, takes.counted, size);
      }

  pub whole : {o : Opening} {log : List T} {old : Tracker T} (new : Tracker T) → IsLog is_clone o log old
      → IsPrefix old.steps new.steps → Takes is_clone o old new (Ok (Err unread.Closed)) → IsHistory is_clone o new.steps
      → IsWholeLog is_clone o log new.steps
  whole {o = o} {log = log} {old = old} new so_far begins (same, all, closed) run =
      record { messages = still_log o old.steps new.steps o.first_number log begins so_far.messages; whole = sym so_far.next ∙ all; closed = closed; run = run }

  pub refused : {learns : Tracker T → Call T → Reply T → Tracker T → Type 0} {o : Opening} {log : List T} {old : Tracker T} (new : Tracker T) {error : AllocError}
      → IsLog is_clone o log old → IsPrefix old.steps new.steps → (new ≡ old) ⊎ ReceivesOnce learns is_clone o old new (Err error) → IsLog is_clone o log new
  refused {o = o} {log = log} {old = old} new so_far begins takes = record {
    messages = still_log o old.steps new.steps o.first_number log begins so_far.messages;
    next = elim takes [ inl same ↦ ap (λ (t : Tracker T). number t.next) same | inr by ↦ by.takes.0 ] ∙ so_far.next;
  }

  module _ (equal : ClonesEqual is_clone) where
    entry_of : (h : History T) (index : ℕ) (msg : T) → numbered h (h.first + index) ≡ Some msg → slice_get h.accepted index ≡ Some msg
    entry_of h index msg at =
        let after : nat_lt (h.first + index) h.first ≡ false = grind (arith, common_steps) in
        let place : h.first + index - h.first ≡ index = omega arith in
        sym (ap (λ b. cond b None (slice_get h.accepted (h.first + index - h.first))) after ∙ ap (slice_get h.accepted) place) ∙ at

    is_there : (accepted : Option T) (msg : T) → IsSomeAnd accepted (λ a. IsGiven is_clone a msg) → accepted ≡ Some msg
    is_there (Some a) msg (inl same) = ap Some (sym same)
    is_there (Some a) msg (inr copy) = ap Some (sym (equal a msg copy))
    is_there None msg there = absurd there

    -- a log from some number on is the accepted messages from there on
    from_there : (h : History T) (at : ℕ) (log : List T) → AreDeliveries is_clone h (h.first + at) log → IsPrefix log (drop at h.accepted)
    from_there h at [] all = (drop at h.accepted, refl)
    from_there h at (msg ∷ log) all =
        let on : h.first + at + 1 ≡ h.first + (at + 1) = omega arith in
        let more = from_there h (at + 1) log (subst (λ n. AreDeliveries is_clone h n log) on all.1) in
        let there = entry_of h at msg (is_there (numbered h (h.first + at)) msg all.0) in
        let split = drop_more h.accepted at msg (slice_get_within h.accepted at msg there) ∙ ap (λ x. x ∷ drop (at + 1) h.accepted) (get_or_from_slice_get h.accepted at msg msg there) in
        (more.0, ap (λ xs. msg ∷ xs) more.1 ∙ sym split)

module _ {T : Type 0} where
  pub first_kept : (o : Opening) (steps : List (Step T)) → (end_of o steps).first ≡ o.first_number
  first_kept o steps = kept_later (λ h. h.first ≡ o.first_number) (λ h c r same. same) o [] steps (steps, refl) refl

  pub logs_are_accepted : (is_clone : T → T → Type 0) → LogsAreAccepted is_clone
  logs_are_accepted is_clone equal o known ended later log knows ends are end =
      let h = end_of o later in
      let same : h.first ≡ o.first_number = first_kept o later in
      let first : o.first_number ≡ h.first + 0 = omega (arith, same) in
      let kept = still_log is_clone o known later o.first_number log knows are in
      let begins : IsPrefix log h.accepted = from_there is_clone equal h 0 log (subst (λ n. AreDeliveries is_clone h n log) first kept) in
      let grown = accepted_grows o ended later ends in
      let alike : (end_of o ended).first ≡ o.first_number = first_kept o ended in
      let size : length log ≡ length (end_of o ended).accepted = omega (arith, end, alike) in
      let begun = prefix_shorter log (end_of o ended).accepted h.accepted begins grown (omega (arith, size)) in
      all_made log begun.0 (end_of o ended).accepted (omega (arith, size, length-append log begun.0, ap length begun.1)) begun.1
