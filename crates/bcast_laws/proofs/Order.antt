-- Messages of one number are one message.
use Rattle.std.proofs.Common.{◌≡◌, inl, inr, ℕ, List, ◌∷◌, Option, Some, None, sym, ◌∙◌, subst, IsSomeAnd}
use Rattle.bcast_model.specs.declared.run.Call.{Call}
use Rattle.bcast_model.specs.declared.run.Reply.{Reply}
use Rattle.bcast_model.specs.Words.{History, numbered, IsGiven, ClonesEqual, next, IsValid, IsRun}
use Rattle.bcast_model.specs.Words.{end_of_run, AreAllExact, AtEachPoint}
use Rattle.bcast_laws.specs.Order.{IsGivenAs, AtSomePoint, HasOneOrder}
use Rattle.bcast_model.proofs.DeliveryLemmas.{deliveries_exact, given_at}

some_both : {X : Type 0} (P Q : X → Type 0) (o : Option X) → IsSomeAnd o P → IsSomeAnd o Q → IsSomeAnd o (λ x. P x × Q x)
some_both P Q None p q = absurd p
some_both P Q (Some x) p q = (p, q)

module _ {T : Type 0} where
  module _ (is_clone : T → T → Type 0) (number : ℕ) (msg : T) where
    given_here : (h : History T) (calls : List (Call T)) (replies : List (Reply T)) → AreAllExact is_clone h calls replies → IsGivenAs number msg h calls replies → IsSomeAnd (numbered (end_of_run h calls replies) number) (λ accepted. IsGiven is_clone accepted msg)
    given_here h calls replies exact is =
        subst (λ n. IsSomeAnd (numbered (end_of_run h calls replies) n) (λ accepted. IsGiven is_clone accepted msg)) is.is_number (given_at is_clone h is.key is.start calls replies (exact is.key is.start is.there) is.index msg is.given)

    given_somewhere : (h : History T) (calls : List (Call T)) (replies : List (Reply T)) → AtEachPoint (AreAllExact is_clone) h calls replies → AtSomePoint (IsGivenAs number msg) h calls replies
        → IsSomeAnd (numbered (end_of_run h calls replies) number) (λ accepted. IsGiven is_clone accepted msg)
    given_somewhere h (c ∷ calls) (r ∷ replies) exact (inl now) = given_here h (c ∷ calls) (r ∷ replies) exact.0 now
    given_somewhere h (c ∷ calls) (r ∷ replies) exact (inr later) = given_somewhere (next h c r) calls replies exact.1 later
    given_somewhere h calls replies exact is = given_here h calls replies exact is

  is_original : (is_clone : T → T → Type 0) (msg given : T) → ClonesEqual is_clone → IsGiven is_clone msg given → given ≡ msg
  is_original is_clone msg given equal (inl same) = same
  is_original is_clone msg given equal (inr copy) = equal msg given copy

  one_original : (is_clone : T → T → Type 0) (x y : T) (o : Option T) → ClonesEqual is_clone → IsSomeAnd o (λ accepted. IsGiven is_clone accepted x × IsGiven is_clone accepted y) → x ≡ y
  one_original is_clone x y None equal both = absurd both
  one_original is_clone x y (Some msg) equal both = is_original is_clone msg x equal both.0 ∙ sym (is_original is_clone msg y equal both.1)

  pub has_one_order : (is_clone : T → T → Type 0) (h : History T) (calls : List (Call T)) (replies : List (Reply T)) → IsValid h → IsRun is_clone h calls replies → HasOneOrder is_clone h calls replies
  has_one_order is_clone h calls replies valid run =
      let exact = deliveries_exact is_clone h calls replies valid run in
      let one = λ (number : ℕ) (x y : T) (to : AtSomePoint (IsGivenAs number x) h calls replies) (too : AtSomePoint (IsGivenAs number y) h calls replies).
      some_both (λ accepted. IsGiven is_clone accepted x) (λ accepted. IsGiven is_clone accepted y) (numbered (end_of_run h calls replies) number)
      (given_somewhere is_clone number x h calls replies exact to) (given_somewhere is_clone number y h calls replies exact too) in
      record {
        one_message = one;
        the_same = λ equal number x y to too. one_original is_clone x y (numbered (end_of_run h calls replies) number) equal (one number x y to too);
      }
