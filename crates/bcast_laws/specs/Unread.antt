-- How much a receiver has still to read, by what `try_recv` returns.
use Rattle.std.specs.Prelude.{◌≡◌, ℕ, zero, suc, ◌<◌, IsOk, IsErr, Ok, Err}
use Rattle.bcast_model.specs.declared.error.TryRecvError.TheVariants as unread_error
use Rattle.bcast_model.specs.declared.run.Call.TheVariants as call
use Rattle.bcast_model.specs.declared.run.Reply.TheVariants as reply
use Rattle.bcast_model.specs.Words.{cursor_of, History, view_of, try_recv_reply, next, IsValid}
use Rattle.bcast_model.specs.Words.{unread, missed}

module _ {T : Type 0} where
  -- the state after a `try_recv` that is not out of memory
  abbrev pub after_try : History T → ℕ → History T
  after_try h key =
      next h (call.TryRecv key)
      (reply.TryRecv (Ok (try_recv_reply (view_of h) (cursor_of h.control key))))

  -- so many `try_recv` in a row give a message, and the next one gives none
  abbrev pub GivesInARow : History T → ℕ → ℕ → Type 0
  GivesInARow h key zero = IsErr (try_recv_reply (view_of h) (cursor_of h.control key))
  GivesInARow h key (suc n) =
      IsOk (try_recv_reply (view_of h) (cursor_of h.control key))
      × GivesInARow (after_try h key) key n

-- `missed` is what the next `try_recv` counts as missed, if it isn't 0; then nothing is missed, and
-- as much unread as before. If nothing is missed, `unread` messages are given in a row
pub record UnreadIsGiven (T : Type 0) : Type 0 where
  pub counted : (h : History T) (key : ℕ) → IsValid h → 0 < missed (view_of h) key
      → try_recv_reply (view_of h) (cursor_of h.control key)
      ≡ Err (unread_error.Overflowed (missed (view_of h) key))
  pub then_none : (h : History T) (key : ℕ) → IsValid h → 0 < missed (view_of h) key
      → missed (view_of (after_try h key)) key ≡ 0
  pub then_unread : (h : History T) (key : ℕ) → IsValid h → 0 < missed (view_of h) key
      → unread (view_of (after_try h key)) key ≡ unread (view_of h) key
  pub given : (h : History T) (key : ℕ) → IsValid h → missed (view_of h) key ≡ 0
      → GivesInARow h key (unread (view_of h) key)
