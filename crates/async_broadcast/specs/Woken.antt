-- Which of the threads that wait for the channel behind a lock are woken.
use Rattle.std.specs.Prelude.{◌≡◌, ◌+◌, ◌%◌, ◌^◌, ◌<◌, ◌||◌, Bool, true, false}
use Rattle.bcast_model.specs.Words.{View, sends_are_ready}
use Rattle.async_broadcast.specs.Counted.{one_more, tail_of}
use Rattle.async_broadcast.specs.declared.lock.threads.Threads.{Threads}
use Rattle.async_broadcast.specs.declared.lock.threads.Woken.{Woken}
use Rattle.async_broadcast.specs.declared.lock.threads.WokenReceivers.{WokenReceivers}
use Rattle.async_broadcast.specs.declared.lock.threads.WokenReceivers.TheVariants as receivers

-- no thread waits
abbrev pub HasNoThread : Threads → Type 0
HasNoThread t = (t.senders ≡ 0) × (t.caught_up_receivers ≡ 0) × (t.due_receivers ≡ 0)

-- threads that wait for a message and have nothing to receive know all that was sent
abbrev pub KnowsTail : {T : Type 0} → View T → Threads → Type 0
KnowsTail v t = 0 < t.caught_up_receivers → t.known ≡ tail_of v

-- if sends are ready and a thread waits to send, one was woken that hasn't tried yet
abbrev pub HasWokenSender : {T : Type 0} → View T → Threads → Type 0
HasWokenSender v t = sends_are_ready v ≡ true → 0 < t.senders → t.is_sender_woken ≡ true

-- if a thread has something to receive, one was woken that hasn't tried yet
abbrev pub HasWokenReceiver : Threads → Type 0
HasWokenReceiver t = 0 < t.due_receivers → t.is_receiver_woken ≡ true

-- a thread that waits to send is newly marked exactly if it is to be woken, and that only if sends
-- are ready and none is marked
abbrev pub ChoosesSender : {T : Type 0} → View T → Threads → Threads → Bool → Type 0
ChoosesSender v old new is_woken =
    (new ≡ record old { is_sender_woken = is_woken || old.is_sender_woken })
    × (is_woken ≡ true
    → (0 < old.senders) × (old.is_sender_woken ≡ false) × (sends_are_ready v ≡ true))

-- the threads that wait to send are as they were
abbrev pub AreSenders : Threads → Threads → Type 0
AreSenders old new = (new.senders ≡ old.senders) × (new.is_sender_woken ≡ old.is_sender_woken)

-- threads that wait for a message have something to receive, if there is more than they know
abbrev pub MovesReceivers : {T : Type 0} → View T → Threads → Threads → Type 0
MovesReceivers v old new =
    (tail_of v ≡ old.known → new ≡ record old { known = tail_of v })
    × ((tail_of v ≡ old.known → ⊥)
    → new ≡ record old {
      known = tail_of v;
      caught_up_receivers = 0;
      due_receivers = (old.due_receivers + old.caught_up_receivers) % 2 ^ 64;
    })

-- one that has something to receive is woken and marked if none is marked; all are woken, and
-- counted no more, if the last to try had waited and found nothing
abbrev pub ChoosesReceivers : Threads → Threads → WokenReceivers → Type 0
ChoosesReceivers old new receivers.Nobody =
    (new ≡ record old { is_misled = false })
    × (0 < old.due_receivers → (old.is_misled ≡ false) × (old.is_receiver_woken ≡ true))
ChoosesReceivers old new receivers.One =
    (new ≡ record old { is_misled = false; is_receiver_woken = true })
    × (0 < old.due_receivers) × (old.is_misled ≡ false) × (old.is_receiver_woken ≡ false)
ChoosesReceivers old new receivers.All =
    (new ≡ record old {
      is_misled = false;
      caught_up_receivers = 0;
      due_receivers = 0;
      rounds = one_more old.rounds;
    })
    × (0 < old.due_receivers) × (old.is_misled ≡ true)

-- a sender is chosen, then receivers among those that have something to receive by now
abbrev pub Chooses : {T : Type 0} → View T → Threads → Threads → Woken → Type 0
Chooses v old new woken =
    (marked moved : Threads) × ChoosesSender v old marked woken.sender
    × MovesReceivers v marked moved × ChoosesReceivers moved new woken.receivers
