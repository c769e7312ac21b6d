-- Which calls a handle makes.
use Rattle.std.specs.Prelude.{◌≡◌, ◌⊎◌, ℕ, List, [], ◌∷◌, Option, Result, Err}
use Rattle.std.specs.List.{AllByRecursion}
use Rattle.std.specs.declared.alloc.AllocError.{AllocError}
use mathlib.Core.List.{IsPrefix}
use Rattle.futures.specs.declared.task.Poll.{Poll}
use Rattle.bcast_model.specs.declared.error.HandleError.TheVariants as handle
use Rattle.bcast_model.specs.declared.run.Call.TheVariants as call
use Rattle.bcast_model.specs.declared.run.Reply.TheVariants as reply
use Rattle.bcast_model.specs.declared.run.Call.{Call}
use Rattle.bcast_model.specs.declared.error.HandleError.{HandleError}
use Rattle.bcast_model.specs.declared.error.RecvError.{RecvError}
use Rattle.bcast_model.specs.declared.run.Reply.{Reply}
use Rattle.bcast_model.specs.Words.{Found}
use Rattle.bcast_history.specs.History.{Opening, Step, Follows}
use Rattle.bcast_history.specs.Reader.{Takes, as_found}
use Rattle.bcast_history.specs.Tracker.{Tracker}

-- a receive of one message by this receiver
abbrev pub IsReceive : {T : Type 0} → ℕ → Step T → Type 0
IsReceive key step = (step.call ≡ call.TryRecv key) ⊎ (step.call ≡ call.PollRecv key)

-- `learns`: what a port says of each call that it makes, of who makes it before and after, and of
-- nothing else. Of two calls in a row nothing says that they are one
module _ {T : Type 0} (learns : Tracker T → Call T → Reply T → Tracker T → Type 0) where
  -- the caller makes these calls with these replies, one after the other, and no other
  abbrev pub MakesEach : List (Step T) → Tracker T → Tracker T → Type 0
  MakesEach [] known after = after ≡ known
  MakesEach (step ∷ steps) known after =
      (between : Tracker T) × learns known step.call step.reply between
      × MakesEach steps between after

  -- a receiver makes receives, one after the other, and no other call; and what it knew begins what
  -- it knows then
  pub record MakesReceives (old new : Tracker T) : Type 0 where
    pub key : new.key ≡ old.key
    pub seen : IsPrefix old.steps new.steps
    pub steps : List (Step T)
    pub receives : AllByRecursion (IsReceive old.key) steps
    pub each : MakesEach steps old new

  -- a handle's last call, by what it knew: what is known after it nobody is told
  abbrev pub MakesLast : Tracker T → Call T → Reply T → Type 0
  MakesLast known call reply = (after : Tracker T) × learns known call reply after

  module _ (is_clone : T → T → Type 0) (o : Opening) where
    -- the caller makes this call with this reply, once, and no other; and it is the last step that
    -- the caller knows then
    pub record MakesCall (known : Tracker T) (call : Call T) (reply : Reply T) (after : Tracker T)
        : Type 0 where
      pub once : learns known call reply after
      pub follows : Follows is_clone o known.steps call reply after.steps

    -- a receiver makes this call, and no other, and takes what it finds by it
    pub record ReceivesBy
        (call : Call T) (reply : Reply T) (old new : Tracker T) (found : Found T) : Type 0 where
      pub key : new.key ≡ old.key
      pub seen : IsPrefix old.steps new.steps
      pub takes : Takes is_clone o old new found
      pub made : MakesCall old call reply new

    -- by one `TryRecv`
    abbrev pub ReceivesOnce : Tracker T → Tracker T → Found T → Type 0
    ReceivesOnce old new found =
        ReceivesBy (call.TryRecv old.key) (reply.TryRecv found) old new found

    -- by one poll
    abbrev pub PollsOnce
        : Tracker T → Tracker T → Result (Poll (Option (Result T RecvError))) AllocError → Type 0
    PollsOnce old new polled =
        ReceivesBy (call.PollRecv old.key) (reply.PollRecv polled) old new (as_found polled)

    -- there was no memory for the handle, and no call was made; or the channel refused, by this call
    abbrev pub MakesNone
        : {V : Type 0} → Call T → (Result V HandleError → Reply T) → Tracker T → HandleError
        → Tracker T → Type 0
    MakesNone call reply known error after =
        ((error ≡ handle.Memory) × (after ≡ known))
        ⊎ MakesCall known call (reply (Err error)) after
