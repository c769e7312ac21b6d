-- Messages in order.
use Rattle.std.specs.Prelude.{◌≡◌, ℕ, List, [], ◌∷◌, ◌++◌}
use mathlib.Core.List.{IsPrefix}
use Rattle.bcast_history.specs.declared.step.Opening.{Opening}
use Rattle.bcast_history.specs.declared.step.Step.{Step}
use Rattle.bcast_history.specs.History.{accepted_by}

-- after what was known come both messages, the second last
abbrev pub StandInOrder : Opening → List (Step ℕ) → ℕ → ℕ → List (Step ℕ) → Type 0
StandInOrder o known first second after =
    (earlier : List ℕ) × (between : List ℕ) × IsPrefix (accepted_by o known) earlier
    × (accepted_by o after ≡ earlier ++ first ∷ [] ++ between ++ second ∷ [])
