-- The recorded history replays.
use Rattle.std.specs.Prelude.{◌<◌, List, map}
use Rattle.std.specs.List.{AllByRecursion}
use Rattle.bcast_model.specs.declared.run.Call.{Call}
use Rattle.bcast_model.specs.Words.{HasPositiveCapacity, View}
use Rattle.bcast_history.specs.declared.step.Step.{Step}
use Rattle.bcast_history.specs.History as history
use Rattle.bcast_record.specs.Recording.{Recording}

module _ {T : Type 0} where
  -- the entries, without their seats
  abbrev pub steps_of : Recording T → List (Step T)
  steps_of r = map (λ entry. record { call = entry.call; reply = entry.reply }) r.entries

  abbrev pub calls_of : Recording T → List (Call T)
  calls_of r = history.calls_of (steps_of r)

  -- the calls and their replies are a run of the channel
  abbrev pub IsRecordedRun : (T → T → Type 0) → Recording T → Type 0
  IsRecordedRun is_clone r = history.IsHistory is_clone r.opening (steps_of r)

  -- they are a run, and this is the view of the state at its end
  abbrev pub Replays : (T → T → Type 0) → Recording T → View T → Type 0
  Replays is_clone r seen = history.Replays is_clone r.opening (steps_of r) seen

  -- the calls can be made again on a new channel: all capacities are positive
  pub record MayRunAgain (r : Recording T) : Type 0 where
    pub capacity : 0 < r.opening.capacity
    pub calls : AllByRecursion HasPositiveCapacity (calls_of r)
