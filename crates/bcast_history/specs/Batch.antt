-- Several messages in one call.
use Rattle.std.specs.Prelude.{◌≡◌, ◌⊎◌, ℕ, ◌+◌, ◌<◌, ◌≤◌, List, ◌++◌, length, Some, Result, Ok, Err}
use Rattle.std.specs.declared.alloc.AllocError.{AllocError}
use Rattle.bcast_model.specs.declared.run.Call.TheVariants as call
use Rattle.bcast_model.specs.declared.run.Reply.TheVariants as reply
use Rattle.bcast_model.specs.Words.{AllFrom, Found, History, IsDelivery}
use Rattle.bcast_history.specs.History.{Opening, Step, end_of}
use Rattle.bcast_history.specs.Tracker.{Tracker, number}

-- a receive by the receiver `key` that gave this message
abbrev pub received : {T : Type 0} → ℕ → T → Step T
received key msg = record { call = call.TryRecv key; reply = reply.TryRecv (Ok (Ok msg)) }

module _ {T : Type 0} (is_clone : T → T → Type 0) where
  -- these are the accepted messages from this number on, each itself or a clone
  abbrev pub AreDeliveries : History T → ℕ → List T → Type 0
  AreDeliveries h = AllFrom (λ number msg. IsDelivery is_clone h number (Some msg))

  -- a receiver takes so many messages, which are put last into a list: those from where it read on,
  -- and it reads on behind them
  pub record TakesInto
      (o : Opening) (old : Tracker T) (before : List T) (count : ℕ) (after : List T)
      (new : Tracker T) : Type 0 where
    pub given : List T
    pub counted : length given ≡ count
    pub put : after ≡ before ++ given
    pub messages : AreDeliveries (end_of o new.steps) (number old.next) given
    pub next : number new.next ≡ number old.next + count

  module _
      {E : Type 0} (o : Opening)
      (Receives : Tracker T → Tracker T → Found T → Type 0)
      (as_tried : Result (Result T E) AllocError → Found T)
      (limit : ℕ) where
    -- `try_recv_many` and its waiting forms: at least one message, if the limit isn't 0; or what one
    -- `try_recv` found that gave none; or memory was refused, and nothing is read, or one `try_recv`
    -- found that. `Receives`: one receive, with what it found. `as_tried`: a result of a single
    -- receive of that form, as `try_recv` returns it
    abbrev pub TakesMany
        : Tracker T → List T → Result (Result ℕ E) AllocError → List T → Tracker T → Type 0
    TakesMany old before (Ok (Ok count)) after new =
        (count ≤ limit) × (0 < limit → 0 < count) × TakesInto o old before count after new
    TakesMany old before (Ok (Err error)) after new =
        (after ≡ before) × Receives old new (as_tried (Ok (Err error)))
    TakesMany old before (Err error) after new =
        (after ≡ before) × ((new ≡ old) ⊎ Receives old new (as_tried (Err error)))
