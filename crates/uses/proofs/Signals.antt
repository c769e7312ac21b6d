-- A channel on which nothing was sent.
use Rattle.std.proofs.Common.{◌≡◌, inl, inr, ℕ, ◌-◌, Bool, true, false, Some, None, Result, Ok, Err, refl, ap, ◌∙◌, arith, rules, IsSome, IfOk}
use Rattle.std.proofs.lemmas.Grind.{common_steps}
use Rattle.std.proofs.lemmas.Option.{slice_get_past}
use Rattle.std.specs.declared.alloc.AllocError.{AllocError}
use Rattle.std.specs.FinMap.{get}
use Rattle.bcast_model.specs.declared.run.Call.TheVariants as call
use Rattle.bcast_model.specs.declared.run.Reply.TheVariants as reply
use Rattle.bcast_model.specs.declared.error.HandleError.{HandleError}
use Rattle.bcast_model.specs.declared.error.TryRecvError.{TryRecvError}
use Rattle.bcast_model.specs.Words.{cursor_of, sets, effect, recv_reply, receive, try_recv_reply}
use Rattle.bcast_model.specs.Words.{View, Answers, IsValidView}
use Rattle.bcast_model.proofs.Cases.{passed_reply}
use Rattle.bcast_model.proofs.DeliveryMaps.{inserted, inserted_other}
use Rattle.uses.specs.Signal.{signal_of, IsSignal, AddsWorker, is_closed_reply}
use Rattle.uses.proofs.Called.{valid, after, unchanged, some_of, some_insert}

abbrev Nothing : Type 0
Nothing = Unit {0}

closed_found : (closed : Bool) → is_closed_reply (Ok (recv_reply {T = Nothing} closed None)) ≡ closed
closed_found true = refl
closed_found false = refl

module _ (v : View Nothing) (valid : IsValidView v) (unused : v.end ≡ 0) (cursor : ℕ) where
  -- a receive finds nothing
  none_found : is_closed_reply (Ok (try_recv_reply v (Some cursor))) ≡ v.control.closed
  none_found = grind (arith, common_steps, valid.high, valid.end, unused, passed_reply v cursor, slice_get_past v.queue (cursor - v.front), closed_found)

  -- and moves no cursor
  none_moved : (key : ℕ) → receive v key (Some cursor) ≡ v.control
  none_moved key = grind (arith, common_steps, valid.high, unused)

module _ {is_clone : Nothing → Nothing → Type 0} {v w : View Nothing} {key : ℕ} where
  -- a worker's look changes nothing
  pub looked_same : {result : Result (Result Nothing TryRecvError) AllocError} → Answers is_clone v (call.TryRecv key) (reply.TryRecv result) w → IsSignal v → IsSome (get v.control.cursors key) → w ≡ v
  looked_same {result = result} a signal worker = unchanged a (same result)
    where
      same : (r : Result (Result Nothing TryRecvError) AllocError) → effect v (call.TryRecv key) (reply.TryRecv r) ≡ sets v.control
      same (Ok received) = let at = some_of (cursor_of v.control key) worker in ap (λ o. sets (receive v key o)) at.1 ∙ ap (λ c. sets c) (none_moved v (valid a) signal.unused at.0 key)
      same (Err error) = refl

  -- and finds out whether the signal is given
  pub looked_closed : {result : Result (Result Nothing TryRecvError) AllocError} → Answers is_clone v (call.TryRecv key) (reply.TryRecv result) w → IsSignal v → IsSome (get v.control.cursors key) → is_closed_reply result ≡ v.control.closed
  looked_closed {result = result} a signal worker =
      let at = some_of (cursor_of v.control key) worker in
      let exactly : result ≡ Ok (try_recv_reply v (cursor_of v.control key)) = elim a.legal [
        | inl e ↦ cc
        | inr owed ↦ (let few = owed.0.kept.1 in let none = signal.unused in absurd (omega (arith, few, none)))
      ] in
      ap is_closed_reply (exactly ∙ ap (λ o. Ok (try_recv_reply v o)) at.1) ∙ none_found v (valid a) signal.unused at.0

-- one more worker
pub added : {is_clone : Nothing → Nothing → Type 0} {v w : View Nothing} {result : Result ℕ HandleError} → Answers is_clone v call.NewReceiver (reply.NewReceiver result) w → IfOk result (AddsWorker (signal_of v) (signal_of w))
added {v = v} {result = Ok key} a =
    after a (λ u. AddsWorker (signal_of v) (signal_of u) key)
    (λ _. search (rules, inserted v.control.cursors key v.end, some_insert v.control.cursors key v.end, inserted_other v.control.cursors key v.end))
added {result = Err error} a = tt
