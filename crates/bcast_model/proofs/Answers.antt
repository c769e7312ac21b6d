-- A step from view to view keeps each valid history with this view valid, and follows from answers.
use Rattle.std.proofs.Common.{◌≡◌, refl, sym, ap, ◌∙◌, subst, ◌<◌, ◌≤◌, ◌^◌, cond, arith}
use Rattle.std.specs.FinMap.{len}
use Rattle.bcast_model.specs.Words.{Call, Reply, Cursors, View, Legal, effect, History, view_of}
use Rattle.bcast_model.specs.Words.{next, IsValid, Represents, IsShown, IsPossible, Answers, settle}
use Rattle.bcast_model.specs.Words.{next_view, Steps, HasRange, Effect, sets, resize}
use Rattle.bcast_model.proofs.Cases.{told_is, next_is}
use Rattle.bcast_model.proofs.Views.{valid_view}
use Rattle.bcast_model.proofs.Lift.{KeepsValid, valid_told, view_of-told}
use Rattle.bcast_model.proofs.Calls.{fits_range, keeps_valid, Fits}
use Rattle.bcast_model.specs.declared.run.Call.TheVariants as call

module _ {T : Type 0} where
  pub cursors-next : (h : History T) (c : Call T) (r : Reply T) → (next h c r).control.cursors ≡ (effect (view_of h) c r).control.cursors
  cursors-next h c r = next_is (λ now. now.cursors ≡ (effect (view_of h) c r).control.cursors) h c r refl refl

  module _ (is_clone : T → T → Type 0) (h : History T) (c : Call T) (r : Reply T) (valid : IsValid h) (few : HasRange c (len (effect (view_of h) c r).control.cursors)) (legal : Legal is_clone (view_of h) c r) where
    keeps : KeepsValid (view_of h) (effect (view_of h) c r)
    keeps = keeps_valid is_clone c r (view_of h) (valid_view h valid) (fits_range c r _ few) legal

    valid-next : IsValid (next h c r)
    valid-next = valid_told h (effect (view_of h) c r) valid keeps

    pub view_of-next : view_of (next h c r) ≡ next_view (view_of h) c r
    view_of-next = view_of-told h (effect (view_of h) c r) valid keeps

  -- each legal reply leads from a valid state to a valid one
  pub next_valid : (is_clone : T → T → Type 0) (h : History T) (c : Call T) (r : Reply T) → HasRange c (len (next h c r).control.cursors) → IsValid h → Legal is_clone (view_of h) c r → IsValid (next h c r)
  next_valid is_clone h c r range valid legal = valid-next is_clone h c r valid (subst (λ (cursors : Cursors). HasRange c (len cursors)) (cursors-next h c r) range) legal

  pub answers : {is_clone : T → T → Type 0} {old new : View T} {c : Call T} {r : Reply T} → HasRange c (len new.control.cursors) → IsShown old → Steps is_clone old c r new → Answers is_clone old c r new
  answers {is_clone = is_clone} {old = old} {new = new} {c = c} {r = r} range shown s =
      let now : View T = settle old (effect old c r) in
      let told = told_is (λ (w : View T). w.control.cursors ≡ now.control.cursors) now refl refl in
      let few = subst (λ (cursors : Cursors). HasRange c (len cursors)) (ap (λ (v : View T). v.control.cursors) s.next ∙ told) range in
      let within : (h : History T) → Represents old h → HasRange c (len (effect (view_of h) c r).control.cursors) = λ h is. subst (λ (v : View T). HasRange c (len (effect v c r).control.cursors)) is few in
      let legal : (h : History T) → Represents old h → Legal is_clone (view_of h) c r = λ h is. subst (λ v. Legal is_clone v c r) is s.legal in
      record {
        shown = shown;
        legal = s.legal;
        represents = λ h valid is. s.next ∙ ap (λ v. next_view v c r) is ∙ sym (view_of-next is_clone h c r valid (within h is) (legal h is));
        valid = λ h valid is. valid-next is_clone h c r valid (within h is) (legal h is);
      }

  -- `answers`, if the view has another name
  pub answers_as : {is_clone : T → T → Type 0} {was old new : View T} {c : Call T} {r : Reply T} → was ≡ old → HasRange c (len new.control.cursors) → IsShown was → Steps is_clone was c r new → Answers is_clone old c r new
  answers_as {is_clone = is_clone} {new = new} {c = c} {r = r} e range shown s = subst (λ v. Answers is_clone v c r new) e (answers range shown s)

  -- the state after a call is shown too
  pub shown_after : {is_clone : T → T → Type 0} {old new : View T} {c : Call T} {r : Reply T} → Answers is_clone old c r new → IsShown new
  shown_after {c = c} {r = r} a = let s = a.shown in (next s.0 c r, a.valid s.0 s.1 s.2, a.represents s.0 s.1 s.2)

  pub possible : {is_clone : T → T → Type 0} {old new : View T} {c made : Call T} {r : Reply T} → c ≡ made → Answers is_clone old made r new → IsPossible is_clone c r
  possible {is_clone = is_clone} {made = made} {r = r} e a = let s = a.shown in (s.0, s.1, subst (λ c. Legal is_clone (view_of s.0) c r) (sym e) (subst (λ v. Legal is_clone v made r) s.2 a.legal))

  -- the range that a call keeps to, if the capacity after it and the count of receivers fit
  fits_after : (c : Call T) (r : Reply T) (v : View T) → 1 ≤ (effect v c r).control.capacity → (effect v c r).control.capacity < 2 ^ 64 → len (effect v c r).control.cursors < 2 ^ 64 → Fits c r (len (effect v c r).control.cursors)
  fits_after (call.SetCapacity n) r v positive below few = λ memory.
      let capacity = ap (λ (e : Effect T). e.control.capacity) (ap (λ b. cond b (sets v.control) (resize v n)) memory) in
      (omega (arith, capacity, positive), omega (arith, capacity, below))
  fits_after call.NewReceiver r v positive below few = few
  fits_after call.Activate r v positive below few = few
  fits_after call.ActivateCloned r v positive below few = few
  fits_after (call.CloneReceiver key) r v positive below few = few
  fits_after c r v positive below few = tt

  keeps_shown : (is_clone : T → T → Type 0) (h : History T) (c : Call T) (r : Reply T) → IsValid h → Legal is_clone (view_of h) c r → IsValid (next h c r) → KeepsValid (view_of h) (effect (view_of h) c r)
  keeps_shown is_clone h c r valid legal after =
      let v : View T = view_of h in
      let capacity = next_is (λ now. now.capacity ≡ (effect (view_of h) c r).control.capacity) h c r refl refl in
      let count = ap (λ (cursors : Cursors). len cursors) (cursors-next h c r) in
      keeps_valid is_clone c r v (valid_view h valid)
      (fits_after c r v (omega (arith, capacity, after.control.capacity)) (omega (arith, capacity, after.control.room, after.control.room_fits)) (omega (arith, count, after.control.receivers_fit)))
      legal

  -- the view after a call follows from the view before it, without a history
  pub steps : {is_clone : T → T → Type 0} {old new : View T} {c : Call T} {r : Reply T} → Answers is_clone old c r new → Steps is_clone old c r new
  steps {is_clone = is_clone} {old = old} {new = new} {c = c} {r = r} a =
      let s = a.shown in
      let legal : Legal is_clone (view_of s.0) c r = subst (λ v. Legal is_clone v c r) s.2 a.legal in
      let keeps = keeps_shown is_clone s.0 c r s.1 legal (a.valid s.0 s.1 s.2) in
      record { legal = a.legal; next = a.represents s.0 s.1 s.2 ∙ view_of-told s.0 (effect (view_of s.0) c r) s.1 keeps ∙ ap (λ v. next_view v c r) (sym s.2) }
