-- What the threads of a run sent, and what they received.
use Rattle.std.specs.Prelude.{◌≡◌, ◌<◌, ◌≤◌, ◌*◌, ℕ, true, nat_eq, List, length, All}
use Rattle.std.specs.List.{list_any}
use mathlib.Core.List.{IsPrefix}
use Rattle.bcast_history.specs.declared.step.Opening.{Opening}
use Rattle.bcast_history.specs.declared.step.Step.{Step}
use Rattle.bcast_history.specs.History.{end_of, accepted_by}
use Rattle.bcast_text.specs.Order.{HoldsEachOnce}
use Rattle.bcast_threads.specs.declared.plan.Plan.{Plan}

-- these hold one list, each the same
abbrev pub IsOneList : {X : Type 0} → (X → List ℕ) → List X → Type 0
IsOneList items lists = (order : List ℕ) × All (λ list. items list ≡ order) lists

-- the lists of a run: one for each receiver, all the same, and in each are the numbers that were
-- to be sent, each once
pub record AreLists {X : Type 0} (plan : Plan) (items : X → List ℕ) (lists : List X) : Type 0 where
  pub count : length lists ≡ plan.receivers
  pub same : IsOneList items lists
  pub each : All (λ list. HoldsEachOnce (items list) (plan.senders * plan.messages)) lists

-- each number from `first` on, up to the one before `end`, is in the list
abbrev pub HasAll : ℕ → ℕ → List ℕ → Type 0
HasAll first end list =
    (number : ℕ) → first ≤ number → number < end → list_any (nat_eq number) list ≡ true

-- wherever these steps close the channel, it had accepted each number from `first` on, up to the one
-- before `end`
abbrev pub AreBeforeClosing : Opening → ℕ → ℕ → List (Step ℕ) → Type 0
AreBeforeClosing o first end steps =
    (closed : List (Step ℕ)) → IsPrefix closed steps → (end_of o closed).control.closed ≡ true
    → HasAll first end (accepted_by o closed)

-- each of these numbers was accepted by these steps, and before the channel was closed
pub record WereSent (o : Opening) (first end : ℕ) (steps : List (Step ℕ)) : Type 0 where
  pub sent : HasAll first end (accepted_by o steps)
  pub before : AreBeforeClosing o first end steps
