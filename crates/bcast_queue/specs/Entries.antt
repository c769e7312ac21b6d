-- The queue that the entries of a ring make up, and what holds of them. No public clause names it.
use Rattle.std.specs.Prelude.{◌≡◌, ℕ, ◌+◌, ◌<◌, ◌≤◌, ◌^◌, List, [], ◌∷◌, ◌++◌, map, take, drop, length, sum, slice_index}
use Rattle.circular_buffer.specs.Buffer.{Buffer}
use Rattle.bcast_queue.specs.declared.entry.Entry.{Entry}
use Rattle.bcast_queue.specs.Queue.{Queued, queue_with}

-- how many readers owe each message: these `before`, and all that are counted up to it
abbrev pub owed_by : ℕ → List ℕ → List ℕ
owed_by before [] = []
owed_by before (n ∷ ns) = (before + n) ∷ owed_by (before + n) ns

-- the counts with so many readers more from the index i on
abbrev pub more_from : ℕ → ℕ → List ℕ → List ℕ
more_from readers i ns = take i ns ++ map (λ n. n + readers) (drop i ns)

module _ {X : Type 0} where
  -- the message of an entry
  abbrev pub message_of : Entry X → X
  message_of e = e.message

  -- how many owing readers read the message of an entry next
  abbrev pub next_of : Entry X → ℕ
  next_of e = e.next

  -- the messages of a ring
  abbrev pub messages : Buffer (Entry X) → List X
  messages ring = map message_of ring.items

  -- the counts of a ring
  abbrev pub counts : Buffer (Entry X) → List ℕ
  counts ring = map next_of ring.items

  -- the queue of this front, this ring, and this room
  abbrev pub queue_of : ℕ → Buffer (Entry X) → ℕ → Queued X
  queue_of front ring room = queue_with front (messages ring) (owed_by 0 (counts ring)) room

-- the counts of the owing readers: their sum is the total, and some reader owes the first message
pub record AreCounted (total : ℕ) (ns : List ℕ) : Type 0 where
  pub summed : total ≡ sum ns
  pub owed : 0 < length ns → 0 < slice_index ns 0

-- the readers are counted, each message has a number, and the ring has room for `room` messages
pub record IsSound {X : Type 0} (front total room : ℕ) (ring : Buffer (Entry X)) : Type 0 where
  pub counted : AreCounted total (counts ring)
  pub numbered : front + length ring.items < 2 ^ 64
  pub fits : length ring.items ≤ room
  pub has_room : room ≤ ring.capacity
