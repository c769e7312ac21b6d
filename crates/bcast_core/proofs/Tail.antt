-- The last step of a call, which tells listeners.
use Rattle.std.proofs.Common.{◌≡◌, ℕ, ◌+◌, ◌≤◌, ◌==◌, Bool, true, false, not, refl, sym, ap, ◌∙◌, subst, arith, eq-eqb, ne_eqb}
use Rattle.std.proofs.lemmas.Grind.{common_steps}
use Rattle.std.specs.FinMap.{len}
use Rattle.bcast_model.specs.declared.run.Call.{Call}
use Rattle.bcast_model.specs.declared.run.Reply.{Reply}
use Rattle.bcast_model.specs.Words.{no_listeners, Cursors, Control, closing, close_if_deserted}
use Rattle.bcast_model.specs.Words.{effect, HasRange, IsValidView, tell_if_ready, sets}
use Rattle.bcast_model.specs.Words.{View, Answers, IsShown, Legal}
pub use Rattle.bcast_model.proofs.Answers.{answers_as, shown_after}
pub use Rattle.bcast_model.proofs.Cases.{told_already, told_valid}
use Rattle.bcast_model.proofs.Cases.{told_is, close_is, deserted_is}
use Rattle.bcast_core.specs.Telling.{NobodyWaits, tell_news}
use Rattle.bcast_core.specs.Parts.{Does}
pub use Rattle.bcast_core.proofs.Does.{valid_shown, does_begin, does_resize, does_receive, does_sets, does_nothing}

module _ {T : Type 0} where
  -- no send is told if none waits
  pub told_none : (v : View T) → v.control.waiting_sends ≡ no_listeners → tell_if_ready v ≡ v
  told_none v nobody = grind (arith, common_steps)

  -- once a side has one handle fewer, no more sends are told: if the channel is closed then, all are told already
  pub told_left : (v : View T) (senders inactive : ℕ) → IsValidView v → tell_if_ready (record v { control = close_if_deserted (record v.control { senders = senders; inactive = inactive }) }) ≡ record v { control = close_if_deserted (record v.control { senders = senders; inactive = inactive }) }
  told_left v senders inactive valid =
      let left : Control = record v.control { senders = senders; inactive = inactive } in
      let Told : Control → Type 0 = λ c. tell_if_ready (record v { control = c }) ≡ record v { control = c } in
      let counted : Told left = told_already (record v { control = left }) valid.wake_ups.sends in
      let closed : Told (closing left) = told_already (record v { control = closing left }) (λ _ some. some) in
      deserted_is Told left (close_is Told left (λ _. counted) (λ _. closed)) (λ _. counted)

  pub ends : {is_clone : T → T → Type 0} {was old mid new : View T} {c : Call T} {r : Reply T} → was ≡ old → IsShown was → HasRange c (len mid.control.cursors) → Does is_clone was c r mid → new ≡ tell_if_ready mid → Answers is_clone old c r new
  ends {mid = mid} {c = c} same shown range does new_is =
      let told = told_is (λ (v : View T). v.control.cursors ≡ mid.control.cursors) mid refl refl in
      let fits = subst (λ (cursors : Cursors). HasRange c (len cursors)) (sym (ap (λ (v : View T). v.control.cursors) new_is ∙ told)) range in
      answers_as same fits shown (record { legal = does.legal; next = new_is ∙ ap tell_if_ready does.effect })

  -- a call that changes nothing
  pub unchanged : {is_clone : T → T → Type 0} {was old new : View T} {c : Call T} {r : Reply T} → was ≡ old → IsShown was → new ≡ was → HasRange c (len was.control.cursors) → Legal is_clone was c r → effect was c r ≡ sets was.control → Answers is_clone old c r new
  unchanged {is_clone = is_clone} {was = was} {old = old} {c = c} {r = r} same shown new_is range legal idle =
      let valid = valid_shown shown in
      subst (λ v. Answers is_clone old c r v) (sym new_is) (ends same shown range (does_nothing valid legal idle refl) (sym (told_valid was valid)))

  -- a call that only reads doesn't change the state
  pub answers_read : {is_clone : T → T → Type 0} {v : View T} {c : Call T} {r : Reply T} → IsShown v → Legal is_clone v c r → effect v c r ≡ sets v.control → HasRange c (len v.control.cursors) → Answers is_clone v c r v
  answers_read shown legal idle range = unchanged refl shown refl range legal idle

  -- the parts that a call reads or changes by themselves are those of a state that is shown
  pub inside_shown : {inside was old : View T} → inside ≡ was → was ≡ old → IsShown was → (inside ≡ old) × IsShown inside
  inside_shown here same shown = (here ∙ same, subst IsShown (sym here) shown)

  -- if no one waits, no one is told of a message
  pub news_nobody : (news : Bool) (v : View T) → NobodyWaits v.control → tell_news news v ≡ v
  news_nobody false v alone = refl
  news_nobody true v alone = grind (arith, common_steps)

  pub tail_nobody : (news : Bool) (v : View T) → NobodyWaits v.control → tell_if_ready (tell_news news v) ≡ v
  tail_nobody news v alone = ap tell_if_ready (news_nobody news v alone) ∙ told_none v alone.sends

  -- there is no news if the end is the same
  pub no_news : (v : View T) → tell_news (not (v.end == v.end)) v ≡ v
  no_news v = ap (λ b. tell_news (not b) v) (eq-eqb v.end v.end refl)

  -- and there is if it rose
  pub some_news : (v new : View T) (more : ℕ) → new.end ≡ v.end + more → 1 ≤ more → tell_news (not (new.end == v.end)) new ≡ tell_news true new
  some_news v new more is some = ap (λ b. tell_news (not b) new) (ne_eqb new.end v.end (λ same. omega (arith, is, some, same)))

-- what the tails are proved by, and what a list tells
pub ruleset tails = (common_steps, told_none, tail_nobody)

pub ruleset news = (common_steps, no_news)
