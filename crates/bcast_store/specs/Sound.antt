-- The store that a queue and cursors make up, and what holds of it. No public clause names it.
use Rattle.std.specs.Prelude.{◌≡◌, ℕ, ◌+◌, ◌<◌, ◌≤◌, Bool, length, Some, count_by, get_or, nat_le}
use Rattle.std.specs.FinMap.{entries, get}
use Rattle.bcast_model.specs.Control.{Cursors}
use Rattle.bcast_queue.specs.Queue.{Queued}
use Rattle.bcast_store.specs.Stored.{Stored}

-- the store of this queue and these cursors
abbrev pub store_of : {T : Type 0} → Queued T → Cursors → Stored T
store_of q cursors =
    record { front = q.front; queue = q.messages; cursors = cursors; room = q.room }

-- a receiver with this cursor is still to read the message of this number
abbrev pub owes : ℕ → ℕ → Bool
owes number cursor = nat_le cursor number

-- how many receivers are still to read the message of this number
unfoldable pub owing_at : Cursors → ℕ → ℕ
owing_at cursors number = count_by (λ e. owes number e.1) (entries cursors)

-- each count of the queue is the number of cursors at or under its message, and no cursor is past
-- the end
pub record IsSound {T : Type 0} (q : Queued T) (cursors : Cursors) : Type 0 where
  pub owed_by : (i : ℕ) → i < length q.messages
      → get_or q.owed i 0 ≡ owing_at cursors (q.front + i)
  pub reach : (key cursor : ℕ) → get cursors key ≡ Some cursor
      → cursor ≤ q.front + length q.messages
