-- Sends for which there is room, reads in order, and new receivers: what callers rely on.
use Rattle.std.specs.Prelude.{◌≡◌, ℕ, ◌+◌, ◌^◌, ◌<◌, ◌≤◌, false, [], ◌∷◌, length, Option, IfSome, IfNone, IsOk, Result, Ok, List}
use Rattle.bcast_model.specs.declared.run.Call.TheVariants as call
use Rattle.bcast_model.specs.declared.run.Reply.TheVariants as reply
use Rattle.bcast_model.specs.declared.error.TryRecvError.{TryRecvError}
use Rattle.bcast_model.specs.declared.error.TrySendError.{TrySendError}
use Rattle.bcast_model.specs.Words.{has_no_receiver, opening, NoClone, ClonesEqual, IsValid, View}
use Rattle.bcast_model.specs.Words.{Answers, Represents}
use Rattle.uses.specs.Log.{unread, record_of, IsReader, IsLog, KeepsReaders, AddsUnread, KeepsUnread, IsFresh}

module _ {T : Type 0} where
  -- an open channel in which nothing overflows, with a receiver, and with room and numbers for this
  -- many more messages
  pub record HasRoom (v : View T) (count : ℕ) : Type 0 where
    pub log : IsLog v
    pub is_open : v.control.closed ≡ false
    pub receivers : has_no_receiver v.control ≡ false
    pub room : length v.queue + count ≤ v.control.capacity
    pub numbers : v.end + count + 1 < 2 ^ 64

  -- `try_broadcast`: the message is accepted, as the last for every reader, and there is room for
  -- this many more
  pub record IsSent
      (v w : View T) (msg : T) (count : ℕ) (r : Result (Option T) (TrySendError T)) : Type 0 where
    pub ok : IsOk r
    pub room : HasRoom w count
    pub added : AddsUnread v w msg
    pub readers : KeepsReaders v w

  -- `try_recv`: the first of what the reader was still to read, or none if there was none; nothing
  -- changes for the other readers
  pub record IsTaken (v w : View T) (reader : ℕ) (found : Option T) : Type 0 where
    pub log : IsLog w
    pub first : IfSome found (λ item. unread v reader ≡ item ∷ unread w reader)
    pub none : IfNone found (unread v reader ≡ [])
    pub others : KeepsUnread v w reader
    pub readers : KeepsReaders v w

-- a new channel has room for as many messages as its capacity, if that is less than 2^64 - 1, and
-- its receiver has none to read
abbrev pub OpensWithRoom : Type 0 → Type 0
OpensWithRoom T =
    (v : View T) (capacity key : ℕ) → Represents v (opening capacity 0 key)
    → IsValid {T = T} (opening capacity 0 key) → capacity + 1 < 2 ^ 64
    → HasRoom v capacity × IsReader v key × (unread v key ≡ [])

-- a message for which there is room is sent
abbrev pub SendsWithRoom : Type 0 → Type 0
SendsWithRoom T =
    (v w : View T) (msg : T) (count : ℕ) (r : Result (Option T) (TrySendError T))
    → Answers NoClone v (call.TryBroadcast msg) (reply.TryBroadcast r) w → HasRoom v (count + 1)
    → IsSent v w msg count r

-- if a clone equals its original, messages are read in the order of sending
abbrev pub ReadsInOrder : {T : Type 0} → (T → T → Type 0) → Type 0
ReadsInOrder {T} is_clone =
    ClonesEqual is_clone → (v w : View T) (reader : ℕ) (r : Result T TryRecvError)
    → Answers is_clone v (call.TryRecv reader) (reply.TryRecv (Ok r)) w → IsLog v
    → IsTaken v w reader (record_of (Ok r))

module _ {T : Type 0} where
  -- a reader under a key that no other has, which is still to read `start`: nothing changes for the
  -- others, and there is room for as many messages as before
  pub record IsAdded (v w : View T) (key : ℕ) (start : List T) : Type 0 where
    pub log : IsLog w
    pub fresh : IsFresh v key
    pub reader : IsReader w key
    pub starts : unread w key ≡ start
    pub others : KeepsUnread v w key
    pub readers : KeepsReaders v w
    pub room : (count : ℕ) → HasRoom v count → HasRoom w count

-- `clone_receiver`: the clone is still to read what its original is
abbrev pub ClonesWithRoom : Type 0 → Type 0
ClonesWithRoom T =
    (v w : View T) (original key : ℕ)
    → Answers NoClone v (call.CloneReceiver original) (reply.CloneReceiver (Ok key)) w → IsLog v
    → IsAdded v w key (unread v original)

-- `new_receiver`: the new one has nothing to read yet
abbrev pub AddsWithRoom : Type 0 → Type 0
AddsWithRoom T =
    (v w : View T) (key : ℕ)
    → Answers NoClone v call.NewReceiver (reply.NewReceiver (Ok key)) w → IsLog v
    → IsAdded v w key []
