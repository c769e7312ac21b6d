-- A log: what each reader is still to read.
use Rattle.std.specs.Prelude.{◌≡◌, ◌≢◌, ℕ, ◌-◌, ◌≤◌, false, List, [], ◌∷◌, ◌++◌, drop, Option, Some, None, IsSome, Result, Ok}
use Rattle.std.specs.Option.{option_map_or}
use Rattle.std.specs.FinMap.{get}
use Rattle.bcast_model.specs.declared.run.Call.TheVariants as call
use Rattle.bcast_model.specs.declared.run.Reply.TheVariants as reply
use Rattle.bcast_model.specs.declared.error.TryRecvError.{TryRecvError}
use Rattle.bcast_model.specs.Words.{Found, NoClone, View, Answers}

module _ {T : Type 0} where
  -- the kept messages from this cursor on
  abbrev pub kept_from : View T → Option ℕ → List T
  kept_from v cursor = option_map_or (λ number. drop (number - v.front) v.queue) cursor []

  -- what a reader is still to read, in the order of writing: nothing if there is no such reader
  abbrev pub unread : View T → ℕ → List T
  unread v reader = kept_from v (get v.control.cursors reader)

  abbrev pub IsReader : View T → ℕ → Type 0
  IsReader v reader = IsSome (get v.control.cursors reader)

  -- no reader has this key
  abbrev pub IsFresh : View T → ℕ → Type 0
  IsFresh v key = (reader : ℕ) → IsReader v reader → reader ≢ key

  -- a full log refuses, so nobody misses a record
  pub record IsLog (v : View T) : Type 0 where
    pub overflow : v.control.overflow ≡ false
    pub reach : (reader cursor : ℕ) → get v.control.cursors reader ≡ Some cursor
        → v.front ≤ cursor

  -- each reader is still a reader
  abbrev pub KeepsReaders : View T → View T → Type 0
  KeepsReaders old new = (reader : ℕ) → IsReader old reader → IsReader new reader

  -- `try_broadcast`: one more record, the last for every reader
  abbrev pub AddsUnread : View T → View T → T → Type 0
  AddsUnread old new added =
      (reader : ℕ) → IsReader old reader → unread new reader ≡ unread old reader ++ added ∷ []

  -- what the other readers are still to read is unchanged
  abbrev pub KeepsUnread : View T → View T → ℕ → Type 0
  KeepsUnread old new reader =
      (other : ℕ) → other ≢ reader → unread new other ≡ unread old other

  -- `try_recv`: the message that it gives, if any
  abbrev pub record_of : Found T → Option T
  record_of (Ok (Ok item)) = Some item
  record_of other = None

  -- `try_recv`: a reply to this reader, read as a record or none, and all that it changes
  pub record IsRead (old : View T) (reader : ℕ) (found : Option T) (new : View T) : Type 0 where
    pub received : Result T TryRecvError
    pub item : found ≡ record_of (Ok received)
    pub answers : Answers NoClone old (call.TryRecv reader) (reply.TryRecv (Ok received)) new
