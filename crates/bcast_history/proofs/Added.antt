-- Receivers that are added: where each starts, the first too.
use Rattle.std.proofs.Common.{◌≡◌, ℕ, Bool, true, List, [], Option, Some, None, Result, Ok, inl, inr, refl, sym, ap, ◌∙◌, subst, IfSome, is_some}
use Rattle.std.proofs.lemmas.Option.{none-some}
use Rattle.std.specs.Coded.{Coded}
use Rattle.std.specs.FinMap.{get, insert}
use Rattle.bcast_core.specs.declared.calls.handles.AddReceiver.{AddReceiver}
use Rattle.bcast_core.specs.declared.calls.handles.AddReceiver.TheVariants as receiver
use Rattle.bcast_core.specs.Calls.{receiver_call, receiver_reply}
use Rattle.bcast_model.specs.declared.error.HandleError.{HandleError}
use Rattle.bcast_model.specs.declared.run.Call.TheVariants as call
use Rattle.bcast_model.specs.declared.run.Reply.{Reply}
use Rattle.bcast_model.specs.declared.run.Reply.TheVariants as reply
use Rattle.bcast_model.specs.Words.{Answers, History, View, Cursors, IsMadeFrom, Legal, Represents, effect, next, view_of, cursor_of, clone_receiver, end_number}
use Rattle.bcast_model.proofs.Answers.{cursors-next}
use Rattle.bcast_model.proofs.DeliveryMaps.{inserted}
use Rattle.bcast_history.specs.History.{Opening, Step, IsLawful, end_of}
use Rattle.bcast_history.proofs.Keeping.{replays}
use Rattle.claims.specs.Claims.{claim_of, put_changed}
use Rattle.claims.proofs.Claims.{put_other}

-- what a reply says that gives a key: the key was free, and the handle was there from which the
-- receiver was to be made
given_key : {T : Type 0} (spelt : Result ℕ HandleError → Reply T) → ((one two : Result ℕ HandleError) → spelt one ≡ spelt two → one ≡ two)
    → (there : Bool) (cursors : Cursors) (key : ℕ) → IsMadeFrom there cursors spelt (spelt (Ok key)) → (get cursors key ≡ None) × (there ≡ true)
given_key spelt told there cursors key (inl gone) = absurd (cc (told _ _ gone.1))
given_key spelt told there cursors key (inr (is, inl (other, made, free))) =
    (subst (λ k. get cursors k ≡ None) (sym (cc (told _ _ made))) free, is)
given_key spelt told there cursors key (inr (is, inr refused)) = absurd (cc (told _ _ refused))

-- where a receiver starts that a call adds
abbrev pub starts_at : {T : Type 0} → History T → AddReceiver → Option ℕ
starts_at h (receiver.Clone original) = cursor_of h.control original
starts_at h c = Some (end_number h)

pub record Added {T : Type 0} (h : History T) (c : AddReceiver) (key : ℕ) : Type 0 where
  pub free : cursor_of h.control key ≡ None
  pub number : ℕ
  pub start : starts_at h c ≡ Some number
  pub there : cursor_of (next h (receiver_call c) (receiver_reply c (Ok key))).control key ≡ Some number

module _ {T : Type 0} (is_clone : T → T → Type 0) (h : History T) (key : ℕ) where
  put : (c : AddReceiver) (number : ℕ) → cursor_of h.control key ≡ None → starts_at h c ≡ Some number
      → (effect (view_of h) (receiver_call c) (receiver_reply c (Ok key))).control.cursors ≡ insert h.control.cursors key number → Added h c key
  put c number free start puts = record {
    free = free;
    number = number;
    start = start;
    there = ap (λ (m : Cursors). get m key) (cursors-next h (receiver_call c) (receiver_reply c (Ok key)) ∙ puts) ∙ inserted h.control.cursors key number;
  }

  pub added : (c : AddReceiver) → Legal is_clone (view_of h) (receiver_call c) (receiver_reply c (Ok key)) → Added h c key
  added receiver.New legal = put receiver.New (end_number h) (given_key reply.NewReceiver (λ a b e. cc e) true h.control.cursors key (inr (refl, legal))).0 refl refl
  added receiver.Activate legal = put receiver.Activate (end_number h) (given_key reply.Activate (λ a b e. cc e) _ h.control.cursors key legal).0 refl refl
  added receiver.ActivateCloned legal = put receiver.ActivateCloned (end_number h) (given_key reply.ActivateCloned (λ a b e. cc e) _ h.control.cursors key legal).0 refl refl
  added (receiver.Clone original) legal =
      let made = given_key reply.CloneReceiver (λ a b e. cc e) _ h.control.cursors key legal in
      elim (cursor_of h.control original) as (λ o. cursor_of h.control original ≡ o → is_some o ≡ true → Added h (receiver.Clone original) key) [
        | None ↦ λ _ no. absurd (cc no)
        | Some number ↦ λ is _. put (receiver.Clone original) number made.0 is (ap (λ o. (clone_receiver h.control o (Some key)).cursors) is)
      ] refl made.1

-- where the channel's steps are kept, and such a call was made
pub kept_added : {T : Type 0} {is_clone : T → T → Type 0} (o : Opening) {steps now : List (Step T)} {before after : View T} (c : AddReceiver) (key : ℕ)
    → Coded T → steps ≡ now → ∥ Represents before (end_of o now) ∥₁ → IsLawful is_clone o steps
    → Answers is_clone before (receiver_call c) (receiver_reply c (Ok key)) after
    → (cursor_of (end_of o steps).control key ≡ None) × ((number : ℕ) × (cursor_of after.control key ≡ Some number))
kept_added {T} {is_clone = is_clone} o {steps = steps} {now = now} c key code is_now shown lawful answers =
    let h = end_of o steps in
    let old = replays steps now code is_now shown lawful in
    let made = added is_clone h key c (subst (λ v. Legal is_clone v (receiver_call c) (receiver_reply c (Ok key))) old.end answers.legal) in
    (made.free, (made.number, ap (λ (v : View T). cursor_of v.control key) (answers.represents h old.valid old.end) ∙ made.there))

-- the key that a call gave isn't claimed after it
pub still_free : (claims : List (Option ℕ)) (key own : ℕ) (next at : Option ℕ) → claim_of claims key ≡ None
    → IfSome next (λ next. claim_of claims own ≡ Some next) → claim_of (put_changed claims own next at) key ≡ None
still_free claims key own None at free claimed = free
still_free claims key own (Some next) at free claimed =
    put_other claims own key at (λ same. none-some next (sym free ∙ ap (claim_of claims) same ∙ claimed)) ∙ free

-- the first receiver starts with the first message, where the channel is that was opened, and no
-- step was made
pub first_tracked : {T : Type 0} {opened named : Opening} {steps : List (Step T)} → opened ≡ named → steps ≡ []
    → cursor_of (end_of named steps).control opened.first_key ≡ Some opened.first_number
first_tracked {T} {opened = o} {named = named} is none =
    let Is : Opening → List (Step T) → Type 0 = λ named steps. cursor_of (end_of named steps).control o.first_key ≡ Some o.first_number in
    subst (Is named) (sym none) (subst (λ named. Is named []) is (inserted _ o.first_key o.first_number))
