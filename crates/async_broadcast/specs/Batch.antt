-- Several messages in one call.
use Rattle.std.specs.Prelude.{◌≡◌, ◌⊎◌, ℕ, ◌<◌, ◌≤◌, List, [], ◌∷◌, ◌++◌, Option, Some, None, Result, Ok, Err}
use Rattle.std.specs.declared.alloc.AllocError.{AllocError}
use Rattle.futures.specs.declared.task.Poll.{Poll}
use Rattle.futures.specs.declared.task.Poll.TheVariants as poll
use Rattle.bcast_model.specs.declared.run.Call.TheVariants as call
use Rattle.bcast_model.specs.declared.run.Reply.TheVariants as reply
use Rattle.bcast_core.specs.Batch.{ReceivesInto}
use Rattle.bcast_model.specs.declared.error.RecvError.{RecvError}
use Rattle.bcast_model.specs.declared.run.Call.{Call}
use Rattle.bcast_model.specs.declared.run.Reply.{Reply}
use Rattle.bcast_model.specs.Words.{Found}

-- so many `try_recv`s in a row, each of which gave a message that was put last into a list
abbrev pub Receives : {T : Type 0} → (Call T → Reply T → Type 0) → ℕ → List T → ℕ → List T → Type 0
Receives gave key before count after =
    ReceivesInto (λ (old : Unit {0}) call reply (new : Unit {0}). gave call reply) key
    (tt {0}) before count after (tt {0})

module _
    {T E : Type 0} (gave : Call T → Reply T → Type 0)
    (as_tried : Result (Result T E) AllocError → Found T)
    (key limit : ℕ) where
  -- `try_recv_many` and its waiting forms, with the list before and after it: at least one message,
  -- if the limit isn't 0, each by a `try_recv` that gave it, and put last into the list; or what
  -- one `try_recv` said that gave none; or memory was refused. `as_tried`: a result of a single
  -- receive of that form, as `try_recv` returns it
  abbrev pub ReceivesMany : List T → Result (Result ℕ E) AllocError → List T → Type 0
  ReceivesMany before (Ok (Ok count)) after =
      (count ≤ limit) × (0 < limit → 0 < count) × Receives gave key before count after
  ReceivesMany before (Ok (Err error)) after =
      (after ≡ before) × gave (call.TryRecv key) (reply.TryRecv (as_tried (Ok (Err error))))
  ReceivesMany before (Err error) after = after ≡ before

module _ {T : Type 0} (gave : Call T → Reply T → Type 0) (key limit : ℕ) where
  -- `poll_recv_many`, with the list before and after it: messages as `try_recv_many` gives them; or
  -- what one `poll_recv` returned, whose message was put last into the list; or memory was refused
  abbrev pub PollsMany
      : List T → Result (Poll (Option (Result ℕ RecvError))) AllocError → List T → Type 0
  PollsMany before (Ok (poll.Ready (Some (Ok count)))) after =
      ((count ≤ limit) × (0 < limit → 0 < count) × Receives gave key before count after)
      ⊎ ((count ≡ 1) × (msg : T) × (after ≡ before ++ msg ∷ [])
      × gave (call.PollRecv key) (reply.PollRecv (Ok (poll.Ready (Some (Ok msg))))))
  PollsMany before (Ok (poll.Ready (Some (Err error)))) after =
      (after ≡ before)
      × gave (call.PollRecv key) (reply.PollRecv (Ok (poll.Ready (Some (Err error)))))
  PollsMany before (Ok (poll.Ready None)) after =
      (after ≡ before) × gave (call.PollRecv key) (reply.PollRecv (Ok (poll.Ready None)))
  PollsMany before (Ok poll.Pending) after =
      (after ≡ before) × gave (call.PollRecv key) (reply.PollRecv (Ok poll.Pending))
  PollsMany before (Err error) after = after ≡ before

-- a single receive's message is put last into a list
abbrev pub PutsLast : {T E : Type 0} → Result (Result T E) AllocError → List T
    → Result (Result ℕ E) AllocError → List T → Type 0
PutsLast (Ok (Ok msg)) before result after = (result ≡ Ok (Ok 1)) × (after ≡ before ++ msg ∷ [])
PutsLast (Ok (Err error)) before result after = (result ≡ Ok (Err error)) × (after ≡ before)
PutsLast (Err refused) before result after = (result ≡ Err refused) × (after ≡ before)
