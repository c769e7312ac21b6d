-- How the threads that wait for the channel behind a lock are counted.
use Rattle.std.specs.Prelude.{◌≡◌, ℕ, ◌+◌, ◌-◌, ◌%◌, ◌^◌, Bool, false}
use Rattle.bcast_model.specs.Words.{View}
use Rattle.async_broadcast.specs.declared.lock.threads.Side.{Side}
use Rattle.async_broadcast.specs.declared.lock.threads.Side.TheVariants as side
use Rattle.async_broadcast.specs.declared.lock.threads.Threads.{Threads}
use Rattle.async_broadcast.specs.declared.lock.threads.WaitingThread.{WaitingThread}
use Rattle.async_broadcast.specs.declared.lock.threads.WaitingThread.TheVariants as waiting

-- one more thread, as the lock counts
abbrev pub one_more : ℕ → ℕ
one_more count = (count + 1) % 2 ^ 64

-- one thread fewer
abbrev pub one_less : ℕ → ℕ
one_less count = (count + (2 ^ 64 - 1)) % 2 ^ 64

-- what changes when a receiver that had read everything has something to receive
abbrev pub tail_of : {T : Type 0} → View T → ℕ × Bool
tail_of v = (v.end, v.control.closed)

-- a thread is about to wait, and is counted with those of its side
abbrev pub BeginsWait : {T : Type 0} → View T → Side → Threads → Threads → WaitingThread → Type 0
BeginsWait v side.Senders old new begun =
    (begun ≡ waiting.ToSend) × (new ≡ record old { senders = one_more old.senders })
BeginsWait v side.Receivers old new begun =
    (begun ≡ waiting.ToReceive (tail_of v) old.rounds)
    × (new ≡ record old {
      caught_up_receivers = one_more old.caught_up_receivers;
      known = tail_of v;
      is_misled = false;
    })

-- a thread that waited has tried again: one that waited for a message was counted among those that
-- know this much, unless a new round has begun since
abbrev pub EndsWait : WaitingThread → Bool → Threads → Threads → Type 0
EndsWait waiting.ToSend must_wait old new =
    new ≡ record old { senders = one_less old.senders; is_sender_woken = false }
EndsWait (waiting.ToReceive known round) must_wait old new =
    ((old.rounds ≡ round → ⊥) → new ≡ old)
    × (old.rounds ≡ round → old.known ≡ known
    → new ≡ record old {
      caught_up_receivers = one_less old.caught_up_receivers;
      is_receiver_woken = false;
      is_misled = must_wait;
    })
    × (old.rounds ≡ round → (old.known ≡ known → ⊥)
    → new ≡ record old {
      due_receivers = one_less old.due_receivers;
      is_receiver_woken = false;
      is_misled = must_wait;
    })
