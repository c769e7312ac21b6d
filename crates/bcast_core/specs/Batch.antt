-- Receives in a row, and what they give.
use Rattle.std.specs.Prelude.{◌≡◌, ℕ, List, [], ◌∷◌, ◌++◌, length, Ok, IsSomeAnd}
use Rattle.bcast_model.specs.Words.{View, cursor_of, kept_at}
use Rattle.bcast_model.specs.declared.run.Call.{Call}
use Rattle.bcast_model.specs.declared.run.Call.TheVariants as call
use Rattle.bcast_model.specs.declared.run.Reply.{Reply}
use Rattle.bcast_model.specs.declared.run.Reply.TheVariants as reply

module _ {S T : Type 0} (Makes : S → Call T → Reply T → S → Type 0) (key : ℕ) where
  -- `try_recv`s by the receiver `key`, one after the other, each of which gave the next of these
  -- messages. `Makes` holds of what there was before a call, the call, its reply, and what there is
  -- after it
  abbrev pub ReceivesEach : S → List T → S → Type 0
  ReceivesEach old [] new = new ≡ old
  ReceivesEach old (msg ∷ msgs) new =
      (between : S) × Makes old (call.TryRecv key) (reply.TryRecv (Ok (Ok msg))) between
      × ReceivesEach between msgs new

  -- so many of them, whose messages were put last into a list
  pub record ReceivesInto (old : S) (before : List T) (count : ℕ) (after : List T) (new : S)
      : Type 0 where
    pub given : List T
    pub counted : length given ≡ count
    pub put : after ≡ before ++ given
    pub each : ReceivesEach old given new

-- the next message of the receiver `key` is there, and memory for its clone may be refused
abbrev pub MayBeRefused : {T : Type 0} → (T → Type 0) → View T → ℕ → Type 0
MayBeRefused is_infallible v key =
    IsSomeAnd (cursor_of v.control key)
    (λ cursor. IsSomeAnd (kept_at v cursor) (λ msg. is_infallible msg → ⊥))
