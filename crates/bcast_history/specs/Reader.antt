-- What a receiver is given, one message after the other.
use Rattle.std.specs.Prelude.{◌≡◌, ℕ, ◌+◌, ◌<◌, ◌≤◌, true, false, Option, Some, None, Result, Ok, Err}
use Rattle.futures.specs.declared.task.Poll.{Poll}
use Rattle.futures.specs.declared.task.Poll.TheVariants as poll
use Rattle.std.specs.declared.alloc.AllocError.{AllocError}
use Rattle.bcast_model.specs.declared.error.RecvError.{RecvError}
use Rattle.bcast_model.specs.declared.error.TryRecvError.TheVariants as unread
use Rattle.bcast_model.specs.declared.error.TryRecvError.{TryRecvError}
use Rattle.bcast_model.specs.Words.{Found, History, cursor_of, IsDelivery, end_number}
use Rattle.async_broadcast.specs.Ports.{as_try_recv}
use Rattle.bcast_history.specs.History.{Opening, end_of}
use Rattle.bcast_history.specs.Tracker.{Tracker, number}

module _ {T : Type 0} where
  -- a receiver reads next the first message of the channel
  abbrev pub StartsAtTheFirst : Opening → Tracker T → Type 0
  StartsAtTheFirst o t = t.next ≡ Some o.first_number

  -- a receiver reads next the next message that is accepted
  abbrev pub StartsAtTheEnd : Opening → Tracker T → Type 0
  StartsAtTheEnd o t = t.next ≡ Some (end_number (end_of o t.steps))

  -- a receiver makes a call that leaves it where it reads
  abbrev pub StaysAt : Tracker T → Tracker T → Type 0
  StaysAt old new = (new.key ≡ old.key) × (new.next ≡ old.next)

  -- a receiver skips messages, from one number up to another: each of them is gone
  abbrev pub Skips : History T → ℕ → ℕ → Type 0
  Skips h from to = (from ≤ to) × ((number : ℕ) → from ≤ number → number < to → number < h.floor)

  -- another receiver has still to read the message of this number, which is kept
  pub record IsShared (h : History T) (key number : ℕ) : Type 0 where
    pub other : ℕ
    pub differs : other ≡ key → ⊥
    pub cursor : ℕ
    pub there : cursor_of h.control other ≡ Some cursor
    pub behind : cursor ≤ number
    pub kept : number < end_number h

  -- what a `poll_recv` finds, as a `try_recv` returns it: `Pending` is `Empty`, the end `Closed`
  abbrev pub as_found : Result (Poll (Option (Result T RecvError))) AllocError → Found T
  as_found (Ok (poll.Ready (Some received))) = as_try_recv (Ok received)
  as_found (Ok (poll.Ready None)) = Ok (Err unread.Closed)
  as_found (Ok poll.Pending) = Ok (Err unread.Empty)
  as_found (Err error) = Err error

  -- what a stream's poll finds, as a `try_recv` returns it: `Pending` is `Empty`, the end `Closed`
  abbrev pub as_tried : Poll (Option T) → Result T TryRecvError
  as_tried (poll.Ready (Some msg)) = Ok msg
  as_tried (poll.Ready None) = Err unread.Closed
  as_tried poll.Pending = Err unread.Empty

module _ {T : Type 0} (is_clone : T → T → Type 0) where
  -- what the receiver `key` finds that read on at `was`, and where it reads on now, on a channel that
  -- is `h` then: a message is the accepted one of the number `was`, or a clone, and the one behind it
  -- is next; one that missed some skips them, up to the end at most; else it has read all, or memory
  -- was refused for the clone of a message that another has still to read
  abbrev pub Finds : History T → ℕ → ℕ → ℕ → Found T → Type 0
  Finds h key was now (Ok (Ok msg)) = IsDelivery is_clone h was (Some msg) × (now ≡ was + 1)
  Finds h key was now (Ok (Err (unread.Overflowed n))) =
      (0 < n) × (now ≡ was + n) × Skips h was now × (now ≤ end_number h)
  Finds h key was now (Ok (Err unread.Empty)) =
      (now ≡ was) × (was ≡ end_number h) × (h.control.closed ≡ false)
  Finds h key was now (Ok (Err unread.Closed)) =
      (now ≡ was) × (was ≡ end_number h) × (h.control.closed ≡ true)
  Finds h key was now (Err error) = (now ≡ was) × IsShared h key was

  -- `Finds`, for a receiver before the receive and after it
  abbrev pub Takes : Opening → Tracker T → Tracker T → Found T → Type 0
  Takes o old new found =
      Finds (end_of o new.steps) old.key (number old.next) (number new.next) found

  -- what a receiver finds that isn't told what it missed, before the poll and after it: it skips
  -- that, and finds what one does that reads on there; or memory was refused
  abbrev pub TakesNext
      : Opening → Tracker T → Tracker T → Result (Poll (Option T)) AllocError → Type 0
  TakesNext o old new (Ok found) =
      (from : ℕ) × Skips (end_of o new.steps) (number old.next) from
      × Finds (end_of o new.steps) old.key from (number new.next) (Ok (as_tried found))
  TakesNext o old new (Err error) = Skips (end_of o new.steps) (number old.next) (number new.next)
