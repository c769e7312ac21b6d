-- An accepted message keeps its number, and the deliveries of every receiver of a run are exact.
use Rattle.std.proofs.Common.{◌≡◌, inl, inr, ℕ, ◌+◌, ◌-◌, ◌≤◌, true, false, List, [], ◌∷◌, length, Option, Some, None, slice_get, refl, sym, ap, ◌∙◌, subst, arith, length-append, IsSomeAnd, is_some, cond, ◌++◌, nat_lt}
use Rattle.bcast_model.specs.Words.{Call, Reply, History, numbered, IsGiven, cursor_of, next}
use Rattle.bcast_model.specs.Words.{IsValid, IsRun, end_of_run, given_to, deliveries_of}
use Rattle.bcast_model.specs.Words.{AtEachPoint, IsDelivery, AreExact, AreAllExact, effect, view_of}
use Rattle.bcast_model.proofs.DeliveryAnswers.{IsGivenAt}
use Rattle.bcast_model.proofs.DeliverySteps.{gives_call}
use Rattle.bcast_model.proofs.DeliveryLists.{all_from_more, all_from_append, at_index, in_longer}

module _ {T : Type 0} where
  numbered-next : (h : History T) (c : Call T) (r : Reply T) (number : ℕ) (msg : T) → numbered h number ≡ Some msg → numbered (next h c r) number ≡ Some msg
  numbered-next h c r number msg e =
      elim (nat_lt number h.first) as (λ b. cond b None (slice_get h.accepted (number - h.first)) ≡ Some msg → cond b None (slice_get (h.accepted ++ (effect (view_of h) c r).accepted) (number - h.first)) ≡ Some msg) [
        | true ↦ λ e. e
        | false ↦ λ e. in_longer h.accepted (effect (view_of h) c r).accepted (number - h.first) msg e
      ] e

  -- a message keeps its number to the run's end
  pub numbered_stays : (h : History T) (calls : List (Call T)) (replies : List (Reply T)) (number : ℕ) (msg : T) → numbered h number ≡ Some msg → numbered (end_of_run h calls replies) number ≡ Some msg
  numbered_stays h (c ∷ calls) (r ∷ replies) number msg e = numbered_stays (next h c r) calls replies number msg (numbered-next h c r number msg e)
  numbered_stays h calls replies number msg e = e

-- what is there stays there
still_some : {X : Type 0} (P : X → Type 0) (o later : Option X) → ((x : X) → o ≡ Some x → later ≡ Some x) → IsSomeAnd o P → IsSomeAnd later P
still_some P None later stays there = absurd there
still_some P (Some x) later stays there = subst (λ o. IsSomeAnd o P) (sym (stays x refl)) there

module _ {T : Type 0} (is_clone : T → T → Type 0) where
  -- what a call gave is delivered as it was, in each state that follows
  stays_given : (h : History T) (calls : List (Call T)) (replies : List (Reply T)) (number : ℕ) (entry : Option T) → IsGivenAt is_clone h number entry → IsDelivery is_clone (end_of_run h calls replies) number entry
  stays_given h calls replies number None given = tt
  stays_given h calls replies number (Some msg) given = still_some (λ accepted. IsGiven is_clone accepted msg) (numbered h number) (numbered (end_of_run h calls replies) number) (λ accepted. numbered_stays h calls replies number accepted) given.1

  exact : (h : History T) (key cursor : ℕ) (calls : List (Call T)) (replies : List (Reply T)) → h.first ≤ h.floor → IsRun is_clone h calls replies → cursor_of h.control key ≡ Some cursor → AreExact is_clone h key cursor calls replies
  exact h key cursor [] replies low run is = (is ∙ ap Some (omega arith), tt)
  exact h key cursor (c ∷ calls) [] low run is = absurd run
  exact h key cursor (c ∷ calls) (r ∷ replies) low run is =
      let gives = gives_call is_clone h key cursor c r low is run.0 in
      let last : History T = end_of_run (next h c r) calls replies in
      let now = all_from_more (IsGivenAt is_clone h) (IsDelivery is_clone last) cursor (given_to key c r) (λ number entry _. stays_given h (c ∷ calls) (r ∷ replies) number entry) gives.each in
      elim gives.cursor_after [
        | inl after ↦ (let there : is_some (cursor_of (next h c r).control key) ≡ true = ap is_some after in
            let rest = exact (next h c r) key (cursor + length (given_to key c r)) calls replies (omega (arith, low)) run.1 after in (
              rw there (rest.0 ∙ ap Some (omega (arith, length-append (given_to key c r) (deliveries_of key (next h c r) calls replies)))),
              rw there (all_from_append (IsDelivery is_clone last) cursor (given_to key c r) (deliveries_of key (next h c r) calls replies) now rest.1),
            ))
        | inr after ↦ (let gone : is_some (cursor_of (next h c r).control key) ≡ false = ap is_some after.0 in (rw (gone, after.1) (is ∙ ap Some (omega arith)), rw (gone, after.1) tt))
      ]

  pub given_at : (h : History T) (key start : ℕ) (calls : List (Call T)) (replies : List (Reply T)) → AreExact is_clone h key start calls replies
      → (index : ℕ) (msg : T) → slice_get (deliveries_of key h calls replies) index ≡ Some (Some msg) → IsSomeAnd (numbered (end_of_run h calls replies) (start + index)) (λ accepted. IsGiven is_clone accepted msg)
  given_at h key start calls replies exact index msg e =
      at_index (IsDelivery is_clone (end_of_run h calls replies)) start (deliveries_of key h calls replies) exact.1 index (Some msg) e

  all_exact : (h : History T) (calls : List (Call T)) (replies : List (Reply T)) → h.first ≤ h.floor → IsRun is_clone h calls replies → AtEachPoint (AreAllExact is_clone) h calls replies
  all_exact h (c ∷ calls) (r ∷ replies) low run =
      (λ key start is. exact h key start (c ∷ calls) (r ∷ replies) low run is, all_exact (next h c r) calls replies (omega (arith, low)) run.1)
  all_exact h calls replies low run = λ key start is. exact h key start calls replies low run is

  pub deliveries_exact : (h : History T) (calls : List (Call T)) (replies : List (Reply T)) → IsValid h → IsRun is_clone h calls replies → AtEachPoint (AreAllExact is_clone) h calls replies
  deliveries_exact h calls replies valid run = all_exact h calls replies valid.floor_low run
