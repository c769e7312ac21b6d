-- Steps on a channel, whether they are a run of it, and what a call tells its caller of them.
use Rattle.std.specs.Prelude.{◌≡◌, ℕ, List, [], ◌∷◌, ◌++◌, map}
use Rattle.std.specs.List.{AllByRecursion}
use mathlib.Core.List.{IsPrefix}
use Rattle.bcast_model.specs.declared.run.Call.{Call}
use Rattle.bcast_model.specs.declared.run.Reply.{Reply}
use Rattle.bcast_model.specs.Words.{History, opening, IsRun, end_of_run, view_of, Legal, next}
use Rattle.bcast_model.specs.Words.{IsValid, View, Represents, HasPositiveCapacity}
pub use Rattle.bcast_history.specs.declared.step.Opening.{Opening}
pub use Rattle.bcast_history.specs.declared.step.Step.{Step}
use Rattle.bcast_history.specs.Book.{Chain}

module _ {T : Type 0} where
  abbrev pub calls_of : List (Step T) → List (Call T)
  calls_of steps = map (λ step. step.call) steps

  abbrev pub replies_of : List (Step T) → List (Reply T)
  replies_of steps = map (λ step. step.reply) steps

  -- the channel as it was opened
  abbrev pub start_of : Opening → History T
  start_of o = opening o.capacity o.first_number o.first_key

  -- the channel after these steps
  abbrev pub end_of : Opening → List (Step T) → History T
  end_of o steps = end_of_run (start_of o) (calls_of steps) (replies_of steps)

  -- the messages that the channel accepted by these steps, in order
  abbrev pub accepted_by : Opening → List (Step T) → List T
  accepted_by o steps = (end_of o steps).accepted

  -- the steps are a run of the channel: each reply is legal after the steps before it
  abbrev pub IsHistory : (T → T → Type 0) → Opening → List (Step T) → Type 0
  IsHistory is_clone o steps = IsRun is_clone (start_of o) (calls_of steps) (replies_of steps)

  -- the steps are a run, and this is the view of the channel at its end
  pub record Replays
      (is_clone : T → T → Type 0) (o : Opening) (steps : List (Step T)) (seen : View T)
      : Type 0 where
    pub run : IsHistory is_clone o steps
    pub end : Represents seen (end_of o steps)
    pub valid : IsValid (end_of o steps)

  -- the steps are a run of which every law of runs speaks: it begins with a valid channel, each
  -- capacity is positive, and it ends with a valid channel
  pub record IsLawful (is_clone : T → T → Type 0) (o : Opening) (steps : List (Step T))
      : Type 0 where
    pub start : IsValid (start_of o)
    pub capacities : AllByRecursion HasPositiveCapacity (calls_of steps)
    pub run : IsHistory is_clone o steps
    pub end : IsValid (end_of o steps)

-- a call by a caller who knew a beginning of the steps, and what it knows then: the steps before
-- the call, those of others among them, and the call with its reply, all of them a run
pub record Follows
    {T : Type 0} (is_clone : T → T → Type 0) (o : Opening) (known : List (Step T))
    (call : Call T) (reply : Reply T) (after : List (Step T)) : Type 0 where
  pub before : List (Step T)
  pub begins : IsPrefix known before
  pub last : after ≡ before ++ record { call = call; reply = reply } ∷ []
  pub lawful : IsLawful is_clone o after
  -- the state before the call is valid, the reply is legal in it, and leads to the state after it
  pub valid : IsValid (end_of o before)
  pub legal : Legal is_clone (view_of (end_of o before)) call reply
  pub end : end_of o after ≡ next (end_of o before) call reply

-- what is seen of a channel that has no name yet, and what a name has to say of it: its journal,
-- what it was opened with, and the registry in which its receivers' cursors are claimed
pub record Opened : Type 0 where
  pub book : Chain
  pub opening : Opening
  pub registry : ℕ
