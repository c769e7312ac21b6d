-- Runs that go on, and what their end shows.
use Rattle.std.proofs.Common.{◌≡◌, List, [], ◌∷◌, ◌++◌, sym, ◌∙◌, subst}
use Rattle.std.proofs.Math.Logic.{∥∥₁_elim}
use Rattle.std.specs.Coded.{Coded}
use Rattle.std.proofs.lemmas.List.{map-append}
use base.Stored.{Coded-set}
use Rattle.bcast_model.specs.declared.run.Call.{Call}
use Rattle.bcast_model.specs.declared.run.Reply.{Reply}
use Rattle.bcast_model.specs.Words.{View, next, Legal, Answers, Represents, IsRun, end_of_run, IsValid}
use Rattle.bcast_model.specs.Encodings.{view_code}
use Rattle.bcast_core.proofs.Runs.{run_more, end_more}
use Rattle.bcast_history.specs.History.{Opening, Step, IsHistory, IsLawful, Replays, calls_of, replies_of, start_of, end_of}

module _ {T : Type 0} where
  pub calls_of-more : (steps : List (Step T)) (step : Step T) → calls_of (steps ++ step ∷ []) ≡ calls_of steps ++ step.call ∷ []
  calls_of-more steps step = map-append (λ s. s.call) steps (step ∷ [])

  pub replies_of-more : (steps : List (Step T)) (step : Step T) → replies_of (steps ++ step ∷ []) ≡ replies_of steps ++ step.reply ∷ []
  replies_of-more steps step = map-append (λ s. s.reply) steps (step ∷ [])

  -- a step that continues a run leads to the next state
  pub end_of-more : (is_clone : T → T → Type 0) (o : Opening) (steps : List (Step T)) (step : Step T)
      → IsHistory is_clone o steps → end_of o (steps ++ step ∷ []) ≡ next (end_of o steps) step.call step.reply
  end_of-more is_clone o steps step history =
      (λ i. end_of_run (start_of o) (calls_of-more steps step i) (replies_of-more steps step i))
      ∙ end_more is_clone (start_of o) (calls_of steps) (replies_of steps) step.call step.reply history

  -- the steps that were kept replay to what the channel shows, and so they do with one more
  pub replays_longer : {is_clone : T → T → Type 0} {o : Opening} {steps longer : List (Step T)} {before after : View T} {call : Call T} {reply : Reply T}
      → longer ≡ steps ++ record { call = call; reply = reply } ∷ []
      → Replays is_clone o steps before → Answers is_clone before call reply after → Replays is_clone o longer after
  replays_longer {is_clone = is_clone} {o = o} {steps = steps} {after = after} {call = call} {reply = reply} pushed old answers =
      let step : Step T = record { call = call; reply = reply } in
      let legal = subst (λ v. Legal is_clone v call reply) old.end answers.legal in
      let run = run_more is_clone (start_of o) (calls_of steps) (replies_of steps) call reply old.run legal in
      let end = end_of-more is_clone o steps step old.run in
      subst (λ ss. Replays is_clone o ss after) (sym pushed) (record {
        run = subst (λ cs. IsRun is_clone (start_of o) cs (replies_of (steps ++ step ∷ []))) (sym (calls_of-more steps step))
            (subst (λ rs. IsRun is_clone (start_of o) (calls_of steps ++ call ∷ []) rs) (sym (replies_of-more steps step)) run);
        end = subst (Represents after) (sym end) (answers.represents (end_of o steps) old.valid old.end);
        valid = subst IsValid (sym end) (answers.valid (end_of o steps) old.valid old.end);
      })

  -- the steps that were kept replay to what the channel shows
  pub replays : {is_clone : T → T → Type 0} {o : Opening} (steps now : List (Step T)) {shown : View T} → Coded T → steps ≡ now
      → ∥ Represents shown (end_of o now) ∥₁ → IsLawful is_clone o steps → Replays is_clone o steps shown
  replays {is_clone = is_clone} {o = o} steps now {shown = shown} code is_now kept lawful =
      let ends : Represents shown (end_of o now) = ∥∥₁_elim kept (Coded-set (view_code code) _ _) (λ e. e) in
      record { run = lawful.run; end = subst (λ ss. Represents shown (end_of o ss)) (sym is_now) ends; valid = lawful.end }
