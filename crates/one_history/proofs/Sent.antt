-- Two messages that were accepted stand in order.
use Rattle.std.proofs.Common.{◌≡◌, ℕ, true, List, [], ◌∷◌, ◌++◌, Option, Result, Ok, Err, refl, sym, ap, ◌∙◌}
use Rattle.std.specs.Prelude.{is_ok}
use Rattle.bcast_model.specs.declared.error.TrySendError.{TrySendError}
use Rattle.bcast_model.specs.declared.run.Call.TheVariants as call
use Rattle.bcast_model.specs.declared.run.Reply.TheVariants as reply
use Rattle.bcast_laws.specs.Sends.{is_accepted}
use Rattle.bcast_history.specs.declared.step.Opening.{Opening}
use Rattle.bcast_history.specs.declared.step.Step.{Step}
use Rattle.bcast_history.specs.History.{Follows}
use Rattle.bcast_history.specs.Laws.{SendsStandLast}
use Rattle.one_history.specs.Order.{StandInOrder}

accepted : (sent : Result (Option ℕ) (TrySendError ℕ)) → is_ok sent ≡ true → is_accepted (reply.TryBroadcast sent) ≡ true
accepted (Ok back) ok = refl
accepted (Err error) ok = absurd cc

pub in_order : {is_clone : ℕ → ℕ → Type 0} {o : Opening} {known middle after : List (Step ℕ)} {first second : ℕ} {one two : Result (Option ℕ) (TrySendError ℕ)}
    → SendsStandLast is_clone
    → Follows is_clone o known (call.TryBroadcast first) (reply.TryBroadcast one) middle
    → Follows is_clone o middle (call.TryBroadcast second) (reply.TryBroadcast two) after
    → is_ok one ≡ true → is_ok two ≡ true → StandInOrder o known first second after
in_order {o = o} {known = known} {middle = middle} {after = after} {second = second} {one = one} {two = two} law f s ok ok' =
    let at_first = law o known middle _ _ f (accepted one ok) in
    let at_second = law o middle after _ _ s (accepted two ok') in (
      at_first.0,
      at_second.1.0,
      at_first.1,
      at_second.2 ∙ ap (λ before. before ++ second ∷ []) (sym at_second.1.1 ∙ ap (λ all. all ++ at_second.1.0) at_first.2),
    )
