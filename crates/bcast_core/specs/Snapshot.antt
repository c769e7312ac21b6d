-- What a snapshot of a channel says.
use Rattle.std.specs.Prelude.{◌≡◌}
use Rattle.std.specs.List.{AllZip}
use Rattle.std.specs.List.Sorted.{IsStrictlyIncreasing}
use Rattle.std.specs.FinMap.{entries}
use Rattle.std.specs.FinSet as set
use Rattle.bcast_model.specs.Words.{Listeners, View}
use Rattle.bcast_core.specs.declared.snapshot.Snapshot.{Snapshot}
use Rattle.bcast_core.specs.declared.snapshot.Waiting.{Waiting}

-- who waits, and how many of them are told
abbrev pub listeners_of : {I A : Type 0} → Waiting I A → Listeners I
listeners_of w = record { ids = w.ids.items; told = w.told }

-- `snapshot`: each part is that of the view, and the queue has a clone of each message, in order
pub record Shows {T A : Type 0} (is_clone : T → T → Type 0) (s : Snapshot T A) (v : View T)
    : Type 0 where
  pub front : s.front ≡ v.front
  pub queue : AllZip is_clone v.queue s.queue.items
  pub end : s.end ≡ v.end
  pub cursors : s.cursors.items ≡ entries v.control.cursors
  pub senders : s.senders ≡ v.control.senders
  pub inactive : s.inactive ≡ v.control.inactive
  pub closed : s.closed ≡ v.control.closed
  pub overflow : s.overflow ≡ v.control.overflow
  pub await_active : s.await_active ≡ v.control.await_active
  pub capacity : s.capacity ≡ v.control.capacity
  pub room : s.room ≡ v.control.room
  -- the places of pending sends, in rising order
  pub places : set.from_list s.places.items ≡ v.control.places
  pub rising : IsStrictlyIncreasing s.places.items
  pub waiting_sends : listeners_of s.waiting_sends ≡ v.control.waiting_sends
  pub waiting_receives : listeners_of s.waiting_receives ≡ v.control.waiting_receives
