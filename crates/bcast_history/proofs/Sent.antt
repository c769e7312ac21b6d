-- Where messages stand, and what a call gives each receiver.
use Rattle.std.proofs.Common.{◌≡◌, ℕ, ◌+◌, List, [], ◌∷◌, ◌++◌, Option, Some, None, refl, sym, ap, ◌∙◌, subst, IsSomeAnd}
use Rattle.bcast_model.specs.declared.run.Call.{Call}
use Rattle.bcast_model.specs.declared.run.Reply.{Reply}
use Rattle.bcast_model.specs.Words.{History, next, end_of_run, numbered, IsDelivery, IsGiven, given_to}
use Rattle.bcast_model.proofs.DeliveryLists.{all_from_more}
use Rattle.bcast_model.proofs.DeliveryAnswers.{IsGivenAt}
use Rattle.bcast_model.proofs.DeliveryLemmas.{numbered_stays}
use Rattle.bcast_model.proofs.DeliverySteps.{gives_call}
use Rattle.bcast_laws.proofs.Sends.{messages_added}
use Rattle.bcast_history.specs.History.{Opening, Step, calls_of, replies_of, start_of, end_of, accepted_by}
use Rattle.bcast_history.proofs.Prefixes.{IsPrefix, prefix_self, prefix_trans}
use Rattle.bcast_history.specs.Laws.{MessagesStay, SendsStandLast, ReadsOn, ReceiversReadOn}

module _ {T : Type 0} where
  -- what each step keeps is so after more steps, too. `Fits`: what is known of a state and of the
  -- steps that follow it
  pub kept_on : (Fits : History T → List (Step T) → Type 0) (Q : History T → Type 0)
      → ((h : History T) (step : Step T) (rest : List (Step T)) → Fits h (step ∷ rest) → Fits (next h step.call step.reply) rest × (Q h → Q (next h step.call step.reply)))
      → (o : Opening) (known later : List (Step T)) → IsPrefix known later → Fits (start_of o) later → Q (end_of o known) → Q (end_of o later)
  kept_on Fits Q keeps o known later begins fit is =
      subst (λ steps. Q (end_of o steps)) begins.1 (on (start_of o) known begins.0 (subst (Fits (start_of o)) (sym begins.1) fit) is)
    where
      on : (h : History T) (steps rest : List (Step T)) → Fits h (steps ++ rest) → Q (end_of_run h (calls_of steps) (replies_of steps)) → Q (end_of_run h (calls_of (steps ++ rest)) (replies_of (steps ++ rest)))
      on h [] [] fit is = is
      on h [] (step ∷ rest) fit is = let now = keeps h step rest fit in on (next h step.call step.reply) [] rest now.0 (now.1 is)
      on h (step ∷ steps) rest fit is = on (next h step.call step.reply) steps rest (keeps h step (steps ++ rest) fit).0 is

  pub kept_later : (Q : History T → Type 0) → ((h : History T) (c : Call T) (r : Reply T) → Q h → Q (next h c r))
      → (o : Opening) (known later : List (Step T)) → IsPrefix known later → Q (end_of o known) → Q (end_of o later)
  kept_later Q keeps o known later begins = kept_on (λ h steps. Unit {0}) Q (λ h step rest _. (tt, keeps h step.call step.reply)) o known later begins tt

  -- accepted messages stay, and more come after them
  pub accepted_grows : (o : Opening) (known later : List (Step T)) → IsPrefix known later → IsPrefix (accepted_by o known) (accepted_by o later)
  accepted_grows o known later begins =
      kept_later (λ h. IsPrefix (accepted_by o known) h.accepted) (λ h c r sooner. prefix_trans (accepted_by o known) h.accepted (next h c r).accepted sooner (_, refl)) o known later begins (prefix_self (accepted_by o known))

  -- a message that has a number keeps it
  pub messages_stay : MessagesStay T
  messages_stay o known later number msg = kept_later (λ h. numbered h number ≡ Some msg) (λ h c r there. numbered_stays h (c ∷ []) (r ∷ []) number msg there) o known later

  -- what is there stays
  still_some : (o later : Option T) (P : T → Type 0) → ((msg : T) → o ≡ Some msg → later ≡ Some msg) → IsSomeAnd o P → IsSomeAnd later P
  still_some None later P same there = absurd there
  still_some (Some msg) later P same there = subst (λ x. IsSomeAnd x P) (sym (same msg refl)) there

  -- and is delivered as it was
  pub delivery_stays : (is_clone : T → T → Type 0) (o : Opening) (known later : List (Step T)) (number : ℕ) (msg : T) → IsPrefix known later
      → IsDelivery is_clone (end_of o known) number (Some msg) → IsDelivery is_clone (end_of o later) number (Some msg)
  delivery_stays is_clone o known later number msg begins =
      still_some (numbered (end_of o known) number) (numbered (end_of o later) number) (λ accepted. IsGiven is_clone accepted msg)
      (λ accepted. messages_stay o known later number accepted begins)

  pub stands_last : (is_clone : T → T → Type 0) → SendsStandLast is_clone
  stands_last is_clone o known after call reply follows accepted = (
    accepted_by o follows.before,
    accepted_grows o known follows.before follows.begins,
    ap (λ h. h.accepted) follows.end ∙ messages_added is_clone (end_of o follows.before) call reply follows.legal accepted,
  )

module _ {T : Type 0} (is_clone : T → T → Type 0) where
  delivered : (h : History T) (number : ℕ) (entry : Option T) → IsGivenAt is_clone h number entry → IsDelivery is_clone h number entry
  delivered h number None given = tt
  delivered h number (Some msg) given = given.1

  pub read_on : ReceiversReadOn is_clone
  read_on o known after call reply key cursor follows at =
      let before = end_of o follows.before in
      let given = given_to key call reply in
      let gives = gives_call is_clone before key cursor call reply follows.valid.floor_low at follows.legal in
      subst (λ h. ReadsOn is_clone before h key cursor given) (sym follows.end) (record {
        each = all_from_more (IsGivenAt is_clone before) (IsDelivery is_clone before) cursor given (λ number entry _. delivered before number entry) gives.each;
        next = gives.cursor_after;
      })
