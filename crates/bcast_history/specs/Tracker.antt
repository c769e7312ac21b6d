-- Who makes calls on a channel with a history: what is known of it.
use Rattle.std.specs.Prelude.{◌≡◌, ◌⊎◌, ◌-◌, ℕ, false, List, [], ◌∷◌, ◌++◌, Option, Some, None, Ok}
use Rattle.std.specs.Option.{option_map_or}
use Rattle.claims.specs.Claims.{claim_of}
use Rattle.bcast_model.specs.declared.run.Call.{Call}
use Rattle.bcast_model.specs.declared.run.Call.TheVariants as call
use Rattle.bcast_model.specs.declared.run.Reply.{Reply}
use Rattle.bcast_model.specs.declared.run.Reply.TheVariants as reply
use Rattle.bcast_model.specs.Words.{Control, cursor_of, end_number}
use Rattle.bcast_history.specs.History.{Opening, Step, Follows, end_of}
use Rattle.async_broadcast.specs.Ports.{is_answer}

-- a beginning of the steps; and if a receiver makes the calls, its key, and the number of the
-- message that it reads next. No receiver does if that is `None`, whatever the key
pub record Tracker (T : Type 0) : Type 0 where
  pub steps : List (Step T)
  pub key : ℕ
  pub next : Option ℕ

-- the channel has a sender of whom nobody knows yet: no step was made, or the last one added it
abbrev pub HasNewSender : {T : Type 0} → List (Step T) → Type 0
HasNewSender {T} steps =
    (steps ≡ []) ⊎ (before : List (Step T)) × (steps ≡ before
    ++ record { call = call.NewSender; reply = reply.NewSender (Ok tt) } ∷ [])

-- where the receiver of this key reads on, if a receiver of it did
abbrev pub next_of : Control → ℕ → Option ℕ → Option ℕ
next_of c key None = None
next_of c key (Some before) = cursor_of c key

-- each claim is to where its receiver reads on
abbrev pub AreCursors : Control → List (Option ℕ) → Type 0
AreCursors c claims =
    (key next : ℕ) → claim_of claims key ≡ Some next → cursor_of c key ≡ Some next

-- the number, or 0 if there is none
abbrev pub number : Option ℕ → ℕ
number next = option_map_or (λ n. n) next 0

module _ {T : Type 0} where
  -- a receiver makes the calls, and knows where it reads on
  abbrev pub IsReceiver : Tracker T → Type 0
  IsReceiver t = t.next ≡ Some (number t.next)

  -- the receiver of this key does
  abbrev pub IsOf : ℕ → Tracker T → Type 0
  IsOf key t = (t.key ≡ key) × IsReceiver t

  -- `unread`, `missed`: how many messages there are from a receiver's cursor on, as far as it knows
  abbrev pub count_behind : Opening → Tracker T → ℕ
  count_behind o t = end_number (end_of o t.steps) - number t.next

  -- who makes the calls of a receiver that was added under this key: it knows as much as who added it
  pub record Begins (o : Opening) (new : ℕ) (maker made : Tracker T) : Type 0 where
    pub steps : made.steps ≡ maker.steps
    pub key : made.key ≡ new
    pub next : made.next ≡ cursor_of (end_of o maker.steps).control new

-- a call that adds to what is known: the channel was as its caller knew it, and the caller knows
-- where it reads on then
pub record Learns
    {T : Type 0} (is_clone : T → T → Type 0) (o : Opening) (known : Tracker T)
    (call : Call T) (reply : Reply T) (after : Tracker T) : Type 0 where
  pub follows : Follows is_clone o known.steps call reply after.steps
  pub there : known.next ≡ next_of (end_of o follows.before).control known.key known.next
  pub key : after.key ≡ known.key
  pub next : after.next ≡ next_of (end_of o after.steps).control known.key known.next
  -- a call that must wait leaves the receiver where it was
  pub waits : is_answer reply ≡ false → after.next ≡ known.next
