-- Lists of calls whose new capacities are positive.
use Rattle.std.specs.Prelude.{ℕ, List}
use Rattle.std.specs.Coded.{Unit-prop, le_prop}
use Rattle.std.specs.List.{AllByRecursion, AllByRecursion-prop}
use Rattle.bcast_model.specs.Next.{HasPositiveCapacity}
use Rattle.bcast_model.specs.declared.run.Call.{Call}
use Rattle.bcast_model.specs.declared.run.Call.TheVariants as call

pub HasPositiveCapacity-prop : (c : Call ℕ) → IsProp (HasPositiveCapacity c)
HasPositiveCapacity-prop (call.SetCapacity n) = le_prop
HasPositiveCapacity-prop c = Unit-prop

-- `run` can make these calls
abbrev pub AllPositive : List (Call ℕ) → Type 0
AllPositive calls = AllByRecursion HasPositiveCapacity calls

pub AllPositive-prop : (calls : List (Call ℕ)) → IsProp (AllPositive calls)
AllPositive-prop calls = AllByRecursion-prop HasPositiveCapacity HasPositiveCapacity-prop calls
