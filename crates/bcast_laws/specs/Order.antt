-- What the receivers of a whole run are given: one order of messages for all of them.
use Rattle.std.specs.Prelude.{◌≡◌, ℕ, ◌+◌, ◌⊎◌, List, ◌∷◌, slice_get, Some, IsSomeAnd}
use Rattle.bcast_model.specs.declared.run.Call.{Call}
use Rattle.bcast_model.specs.declared.run.Reply.{Reply}
use Rattle.bcast_model.specs.Words.{cursor_of, History, numbered, IsGiven, ClonesEqual, next}
use Rattle.bcast_model.specs.Words.{IsValid, IsRun, end_of_run, deliveries_of}

-- a receiver that is there now is given this message, as the one of this number: its first delivery
-- has the number of its cursor now, and each later one the next number
pub record IsGivenAs
    {T : Type 0} (number : ℕ) (msg : T)
    (h : History T) (calls : List (Call T)) (replies : List (Reply T)) : Type 0 where
  pub key : ℕ
  pub start : ℕ
  pub index : ℕ
  pub there : cursor_of h.control key ≡ Some start
  pub is_number : start + index ≡ number
  pub given : slice_get (deliveries_of key h calls replies) index ≡ Some (Some msg)

module _ {T : Type 0} where
  -- `Holds` at some point of a run: of the state there, and of the calls and replies that follow
  abbrev pub AtSomePoint : (History T → List (Call T) → List (Reply T) → Type 0)
      → History T → List (Call T) → List (Reply T) → Type 0
  AtSomePoint Holds h (c ∷ calls) (r ∷ replies) =
      Holds h (c ∷ calls) (r ∷ replies) ⊎ AtSomePoint Holds (next h c r) calls replies
  AtSomePoint Holds h calls replies = Holds h calls replies

-- receivers that are given messages of one number, whenever they were made, are given one accepted
-- message or clones of it; if a clone equals its original, they are given equal messages
pub record HasOneOrder
    {T : Type 0} (is_clone : T → T → Type 0)
    (h : History T) (calls : List (Call T)) (replies : List (Reply T)) : Type 0 where
  pub one_message : (number : ℕ) (x y : T) → AtSomePoint (IsGivenAs number x) h calls replies
      → AtSomePoint (IsGivenAs number y) h calls replies
      → IsSomeAnd (numbered (end_of_run h calls replies) number)
      (λ accepted. IsGiven is_clone accepted x × IsGiven is_clone accepted y)
  pub the_same : ClonesEqual is_clone → (number : ℕ) (x y : T)
      → AtSomePoint (IsGivenAs number x) h calls replies
      → AtSomePoint (IsGivenAs number y) h calls replies → x ≡ y

-- every run from a valid state has one order
abbrev pub RunsHaveOneOrder : {T : Type 0} → (T → T → Type 0) → Type 0
RunsHaveOneOrder {T} is_clone =
    (h : History T) (calls : List (Call T)) (replies : List (Reply T))
    → IsValid h → IsRun is_clone h calls replies → HasOneOrder is_clone h calls replies
