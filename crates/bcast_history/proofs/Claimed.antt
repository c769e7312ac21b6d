-- A call leaves the cursors of all receivers but the one that it moves, or takes from the channel. So
-- what is claimed is where the receivers read on, and stays so.
use Rattle.std.proofs.Common.{◌≡◌, ◌≢◌, ℕ, Bool, true, List, [], Option, Some, None, inl, inr, refl, sym, ap, ◌∙◌, subst, IfSome}
use Rattle.std.proofs.lemmas.Bool.{cases_eq, false≢true}
use Rattle.std.proofs.lemmas.Option.{none-some}
use Rattle.std.specs.FinMap.{get}
use Rattle.claims.specs.Claims.{claim_of, put, put_changed}
use Rattle.claims.proofs.Claims.{put_same, put_other}
use Rattle.bcast_model.specs.declared.run.Call.{Call}
use Rattle.bcast_model.specs.declared.run.Call.TheVariants as call
use Rattle.bcast_model.specs.declared.run.Reply.{Reply}
use Rattle.bcast_model.specs.Words.{History, Control, Cursors, Legal, next, view_of, effect, cursor_of, front_number, end_number, receives_for}
use Rattle.bcast_model.proofs.Answers.{cursors-next}
use Rattle.bcast_model.proofs.DeliveryCursors.{TakesOut, changes}
use Rattle.bcast_model.proofs.DeliveryMaps.{CursorsChange, stay, rise, make, leave, inserted_other, removed_other}
use Rattle.bcast_model.proofs.DeliverySteps.{same_reader}
use Rattle.async_broadcast.specs.Ports.{moved_by}
use Rattle.bcast_history.specs.Tracker.{AreCursors, next_of}

-- a receive moves its receiver
receiver_moved : {T : Type 0} (key : ℕ) (c : Call T) → receives_for key c ≡ true → moved_by c ≡ Some key
receiver_moved key (call.TryRecv reader) reads = ap Some (same_reader reader key reads)
receiver_moved key (call.PollFuture reader) reads = ap Some (same_reader reader key reads)
receiver_moved key (call.PollRecv reader) reads = ap Some (same_reader reader key reads)
receiver_moved key (call.PollNext reader) reads = ap Some (same_reader reader key reads)
receiver_moved key c reads = absurd (false≢true reads)

-- who doesn't receive by the call, and doesn't leave by it, stays
spared : (front end : ℕ) (receives : ℕ → Bool) (Leaves : ℕ → Type 0) (Legal : Type 0) (old new : Cursors) (key at : ℕ) → CursorsChange front end receives Leaves Legal old new → Legal
    → ((other : ℕ) → receives other ≡ true → key ≢ other) → ((other : ℕ) → Leaves other → key ≢ other) → get old key ≡ Some at → get new key ≡ Some at
spared front end receives Leaves Legal old new key at (stay same) legal others gone is = ap (λ (m : Cursors). get m key) same ∙ is
spared front end receives Leaves Legal old new key at (rise other from to reads found le high same) legal others gone is =
    ap (λ (m : Cursors). get m key) same ∙ inserted_other old other to key (others other reads) ∙ is
spared front end receives Leaves Legal old new key at (make made to free source same) legal others gone is =
    ap (λ (m : Cursors). get m key) same ∙ inserted_other old made to key (λ e. none-some at (sym (free legal) ∙ ap (get old) (sym e) ∙ is)) ∙ is
spared front end receives Leaves Legal old new key at (leave other leaves same) legal others gone is =
    ap (λ (m : Cursors). get m key) same ∙ removed_other old other key (gone other leaves) ∙ is

pub others_stay
    : {T : Type 0} (is_clone : T → T → Type 0) (h : History T) (c : Call T) (r : Reply T) (key at : ℕ) → Legal is_clone (view_of h) c r
    → (moved_by c ≡ Some key → ⊥) → cursor_of h.control key ≡ Some at → cursor_of (next h c r).control key ≡ Some at
others_stay is_clone h c r key at legal apart is =
    ap (λ (m : Cursors). get m key) (cursors-next h c r)
    ∙ spared (front_number h) (end_number h) (λ key. receives_for key c) (TakesOut c) (Legal is_clone (view_of h) c r) h.control.cursors (effect (view_of h) c r).control.cursors key at (changes is_clone (view_of h) c r).cursors legal
    (λ other reads same. apart (receiver_moved other c reads ∙ ap Some (sym same)))
    (λ other left same. (let moved : moved_by c ≡ Some other = elim left [ inl e ↦ ap moved_by e | inr e ↦ ap moved_by e ] in apart (moved ∙ ap Some (sym same)))) is

-- ---- claims
-- where a receiver reads on that did is where it reads on
pub next_settles : (c : Control) (key : ℕ) (was : Option ℕ) → next_of c key was ≡ next_of c key (next_of c key was)
next_settles c key None = refl
next_settles c key (Some before) = elim (cursor_of c key) as (λ o. cursor_of c key ≡ o → o ≡ next_of c key o) [
  | None ↦ λ _. refl
  | Some next ↦ λ is. sym is
] refl

-- what an owner claims is so
pub claimed_there : (c : Control) (claims : List (Option ℕ)) (key : ℕ) (next : Option ℕ) → AreCursors c claims
    → IfSome next (λ next. claim_of claims key ≡ Some next) → next ≡ next_of c key next
claimed_there c claims key None cursors claimed = refl
claimed_there c claims key (Some next) cursors claimed = sym (cursors key next claimed)

-- after a call each claim is where its receiver reads on, if the receivers stay whose cursors others
-- have claimed
pub claims_read_on
    : (before after : Control) (claims : List (Option ℕ)) (key : ℕ) (next : Option ℕ) → AreCursors before claims
    → ((other at : ℕ) → (IfSome next (λ _. other ≡ key → ⊥)) → cursor_of before other ≡ Some at → cursor_of after other ≡ Some at)
    → AreCursors after (put_changed claims key next (next_of after key next))
claims_read_on before after claims key None cursors others other at is = others other at tt (cursors other at is)
claims_read_on before after claims key (Some was) cursors others other at is = elim (cases_eq other key) [
  | inl same ↦ ap (cursor_of after) same ∙ sym (put_same claims key (cursor_of after key)) ∙ ap (claim_of (put claims key (cursor_of after key))) (sym same) ∙ is
  | inr differs ↦ others other at differs (cursors other at (sym (put_other claims key other (cursor_of after key) differs) ∙ is))
]

-- as where a receiver's cursor is claimed
pub claims_cursor : (c : Control) (claims : List (Option ℕ)) (key : ℕ) → AreCursors c claims → AreCursors c (put claims key (cursor_of c key))
claims_cursor c claims key cursors = claims_read_on c c claims key (Some 0) cursors (λ other at differs is. is)

-- at first the first receiver's cursor alone is claimed
pub first_claimed : (c : Control) (key : ℕ) {none claims : List (Option ℕ)} {number : ℕ} → none ≡ [] → claims ≡ put none key (Some number) → cursor_of c key ≡ Some number
    → AreCursors c claims
first_claimed c key {number = number} empty put_so there =
    let nothing : AreCursors c [] = λ other next is. absurd (cc is) in
    subst (AreCursors c) (sym (put_so ∙ ap (λ cs. put cs key (Some number)) empty ∙ ap (put [] key) (sym there))) (claims_cursor c [] key nothing)
