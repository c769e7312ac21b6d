-- A run with one more call, and what holds at each point of a run.
use Rattle.bcast_core.proofs.Common.{◌≡◌, List, [], ◌∷◌, ◌++◌, length, append-nil, refl, sym, ap, ◌∙◌, History, view_of, Legal, next, IsValid, IsRun, end_of_run, AtEachPoint, WaitsAsItsTry, ComesToRest}
use Rattle.std.proofs.lemmas.List.{nil_from_length}
use Rattle.bcast_model.specs.declared.run.Call.{Call}
use Rattle.bcast_model.specs.declared.run.Reply.{Reply}
use Rattle.bcast_model.proofs.Views.{valid_view}
use Rattle.bcast_model.proofs.Polls.{waits_as_its_try}
use Rattle.bcast_model.proofs.ToldPolls.{comes_to_rest}

-- no call is left
pub all_made : {X : Type 0} (made rest all : List X) → length rest ≡ 0 → made ++ rest ≡ all → made ≡ all
all_made made rest all n e = sym (append-nil made) ∙ ap (λ xs. made ++ xs) (sym (nil_from_length rest n)) ∙ e

module _ {T : Type 0} where
  pub run_more : (is_clone : T → T → Type 0) (h : History T) (calls : List (Call T)) (replies : List (Reply T)) (c : Call T) (r : Reply T) → IsRun is_clone h calls replies → Legal is_clone (view_of (end_of_run h calls replies)) c r → IsRun is_clone h (calls ++ c ∷ []) (replies ++ r ∷ [])
  run_more is_clone h [] [] c r run l = (l, tt)
  run_more is_clone h (d ∷ calls) (s ∷ replies) c r run l = (run.0, run_more is_clone (next h d s) calls replies c r run.1 l)
  run_more is_clone h calls replies c r run l = absurd run

  pub end_more : (is_clone : T → T → Type 0) (h : History T) (calls : List (Call T)) (replies : List (Reply T)) (c : Call T) (r : Reply T) → IsRun is_clone h calls replies → end_of_run h (calls ++ c ∷ []) (replies ++ r ∷ []) ≡ next (end_of_run h calls replies) c r
  end_more is_clone h [] [] c r run = refl
  end_more is_clone h (d ∷ calls) (s ∷ replies) c r run = end_more is_clone (next h d s) calls replies c r run.1
  end_more is_clone h calls replies c r run = absurd run

  -- ---- each point
  -- the state is valid
  abbrev pub AreValid : History T → List (Call T) → List (Reply T) → Type 0
  AreValid = AtEachPoint (λ h calls replies. IsValid h)

  module _ (is_clone : T → T → Type 0) where
    pub valid_more : (h : History T) (calls : List (Call T)) (replies : List (Reply T)) (c : Call T) (r : Reply T) → IsRun is_clone h calls replies → AreValid h calls replies → IsValid (next (end_of_run h calls replies) c r) → AreValid h (calls ++ c ∷ []) (replies ++ r ∷ [])
    valid_more h [] [] c r run valid last = (valid, last)
    valid_more h (d ∷ calls) (s ∷ replies) c r run valid last = (valid.0, valid_more (next h d s) calls replies c r run.1 valid.1 last)
    valid_more h calls replies c r run valid last = absurd run

    pub valid_end : (h : History T) (calls : List (Call T)) (replies : List (Reply T)) → IsRun is_clone h calls replies → AreValid h calls replies → IsValid (end_of_run h calls replies)
    valid_end h (d ∷ calls) (s ∷ replies) run valid = valid_end (next h d s) calls replies run.1 valid.1
    valid_end h calls replies run valid = valid

    pub polls_wait : (h : History T) (calls : List (Call T)) (replies : List (Reply T)) → IsRun is_clone h calls replies → AreValid h calls replies → AtEachPoint WaitsAsItsTry h calls replies
    polls_wait h (c ∷ calls) (r ∷ replies) run valid = (λ poll memory. waits_as_its_try is_clone (view_of h) c r (valid_view h valid.0) run.0 poll memory, polls_wait (next h c r) calls replies run.1 valid.1)
    polls_wait h calls replies run valid = tt

    pub polls_rest : (h : History T) (calls : List (Call T)) (replies : List (Reply T)) → IsRun is_clone h calls replies → AreValid h calls replies → AtEachPoint (ComesToRest is_clone) h calls replies
    polls_rest h (c ∷ calls) (r ∷ replies) run valid = (comes_to_rest is_clone h (c ∷ calls) (r ∷ replies) valid.0 run, polls_rest (next h c r) calls replies run.1 valid.1)
    polls_rest h calls replies run valid = comes_to_rest is_clone h calls replies valid run
