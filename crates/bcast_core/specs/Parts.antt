-- How the state of a channel is put together. No public clause cites this module.
use Rattle.std.specs.Prelude.{◌≡◌, ℕ, ◌+◌, ◌*◌, ◌^◌, ◌<◌, ◌⊎◌, Bool, true, false, is_some, None, Some, IsSomeAnd, Result, Ok, Err}
use Rattle.std.specs.FinMap.{get, len}
use Rattle.std.specs.FinSet as set
use Rattle.bcast_model.specs.Words.{Found, Control, Cursors, Places, View, Legal, effect, settle}
use Rattle.bcast_model.specs.Words.{Pair, is_empty_reply, kept_at, IsOwed, cursor_of, with_cursor, sets}
use Rattle.bcast_model.specs.declared.error.HandleError.{HandleError}
use Rattle.bcast_model.specs.declared.error.HandleError.TheVariants as handle
use Rattle.bcast_model.specs.declared.listener.Kind.{Kind}
use Rattle.bcast_model.specs.declared.listener.Kind.TheVariants as kind
use Rattle.bcast_model.specs.declared.run.Call.{Call}
use Rattle.bcast_model.specs.declared.run.Reply.{Reply}
use Rattle.bcast_core.specs.Tries.{tries_of}
use Rattle.bcast_store.specs.Stored.{Stored, end_of}
use Rattle.bcast_waiting.specs.Words.{Event}

-- what stands beside the messages
abbrev pub control_of : {T : Type 0} → Stored T → Places → Event ℕ → Event Pair
    → ℕ → ℕ → Bool → Bool → Bool → ℕ → Control
control_of store places sends receives senders inactive closed overflow await_active capacity =
    record {
      cursors = store.cursors;
      senders = senders;
      inactive = inactive;
      closed = closed;
      overflow = overflow;
      await_active = await_active;
      capacity = capacity;
      room = store.room;
      places = places;
      waiting_sends = sends.listeners;
      waiting_receives = receives.listeners;
    }

abbrev pub seen_of : {T : Type 0} → Stored T → Control → View T
seen_of store control = record {
  front = store.front;
  queue = store.queue;
  end = end_of store;
  control = control;
}

-- each receiver's stream and future find room among the listeners
abbrev pub ReceiversHaveRoom : Cursors → ℕ → Type 0
ReceiversHaveRoom cursors room = (key : ℕ) → is_some (get cursors key) ≡ true → 2 * key + 1 < room

-- and each pending send among those that wait
pub record AllHaveRoom
    (cursors : Cursors) (receives_room : ℕ) (places : Places) (sends_room : ℕ) : Type 0 where
  pub receivers : ReceiversHaveRoom cursors receives_room
  pub sends : (place : ℕ) → set.contains places place ≡ true → place < sends_room

-- a call and its reply, but for telling a sender
pub record Does
    {T : Type 0} (is_clone : T → T → Type 0) (old : View T) (c : Call T) (r : Reply T)
    (new : View T) : Type 0 where
  pub legal : Legal is_clone old c r
  pub effect : new ≡ settle old (effect old c r)

-- a receiver that reads the message of this number next is added under a key that none has; or
-- memory for it was refused
abbrev pub Adds : {T : Type 0} → View T → ℕ → Result ℕ HandleError → View T → Type 0
Adds v cursor (Ok key) new =
    let c = with_cursor v.control key cursor in
    (cursor_of v.control key ≡ None) × (new ≡ settle v (sets c)) × (len c.cursors < 2 ^ 64)
Adds v cursor (Err error) new = (error ≡ handle.Memory) × (new ≡ v)

-- how often a receive poll looks for a message: a future's always once
abbrev pub tries_by : Kind → Control → Pair → ℕ
tries_by kind.Stream c pair = tries_of c pair
tries_by kind.Future c pair = 1

-- `try_recv`: it was answered `Empty`; one that found no memory would find something
abbrev pub finds_nothing : {T : Type 0} → Found T → Bool
finds_nothing (Ok answer) = is_empty_reply answer
finds_nothing (Err e) = false

-- the message of this number itself or, if another receiver owes it too, a clone of it
abbrev pub IsHandedOut : {T : Type 0} → (T → T → Type 0) → View T → ℕ → ℕ → T → Type 0
IsHandedOut is_clone v key number given =
    (kept_at v number ≡ Some given)
    ⊎ (IsOwed v key (Some number) × IsSomeAnd (kept_at v number) (λ msg. is_clone msg given))
