-- What a contract sees of a `Queue`, and what its calls do to it. An index counts from the front.
use Rattle.std.specs.Prelude.{ℕ, ◌+◌, ◌-◌, ◌==◌, List, ◌++◌, map, take, drop, slice_index, slice_set, count_by, if◌then◌else◌}
pub use Rattle.circular_buffer.specs.Buffer.{last_item}

-- `Inner`: the first message's number, the messages, how many readers owe each, and how many fit
pub record Queued (X : Type 0) : Type 0 where
  pub front : ℕ
  pub messages : List X
  pub owed : List ℕ
  pub room : ℕ

-- the counts with one reader more from the index i on
abbrev pub one_more_from : ℕ → List ℕ → List ℕ
one_more_from i ns = take i ns ++ map (λ n. n + 1) (drop i ns)

-- the counts with one reader fewer from the index i on
abbrev pub one_fewer_from : ℕ → List ℕ → List ℕ
one_fewer_from i ns = take i ns ++ map (λ n. n - 1) (drop i ns)

module _ {X : Type 0} where
  -- the queue with these four parts
  abbrev pub queue_with : ℕ → List X → List ℕ → ℕ → Queued X
  queue_with front messages owed room =
      record { front = front; messages = messages; owed = owed; room = room }

  -- the queue without its first n messages
  abbrev pub without : ℕ → Queued X → Queued X
  without n q = queue_with (q.front + n) (drop n q.messages) (drop n q.owed) q.room

  -- `Receiver::clone`: one reader more from the index i on
  abbrev pub with_reader : ℕ → Queued X → Queued X
  with_reader i q = record q { owed = one_more_from i q.owed }

  -- one reader moves on from the index i, past n messages that others owe too
  abbrev pub passed : ℕ → ℕ → Queued X → Queued X
  passed i n q = record q { owed = one_more_from (i + n) (one_fewer_from i q.owed) }

  -- `drop` of a `Receiver`: one reader fewer from the index i on; messages no reader owes then go
  abbrev pub without_reader : ℕ → Queued X → Queued X
  without_reader i q =
      let rest = record q { owed = one_fewer_from i q.owed } in
      without (count_by (λ n. n == 0) rest.owed) rest

  -- `try_recv_at`: one reader fewer at the index i; the message is gone if that was the last
  abbrev pub read_at : ℕ → Queued X → Queued X
  read_at i q =
      if slice_index q.owed i == 1
      then without 1 q
      else record q { owed = slice_set q.owed i (slice_index q.owed i - 1) }
