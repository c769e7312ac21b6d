-- Settings that watchers follow: what a watcher finds that looks late.
use Rattle.std.specs.Prelude.{◌≡◌, ◌≢◌, ℕ, ◌+◌, ◌≤◌, true, [], ◌∷◌, Option, Some, None, Result, Ok, Err}
use Rattle.std.specs.FinMap.{get, len}
use Rattle.futures.specs.declared.task.Poll.{Poll}
use Rattle.futures.specs.declared.task.Poll.TheVariants as poll
use Rattle.bcast_model.specs.declared.error.TrySendError.{TrySendError}
use Rattle.bcast_model.specs.Words.{unsent_message, opening, IsGiven, NoClone, View, Answers}
use Rattle.bcast_model.specs.Words.{Represents}
use Rattle.bcast_model.specs.declared.run.Call.TheVariants as call
use Rattle.bcast_model.specs.declared.run.Reply.TheVariants as reply
use Rattle.uses.specs.declared.config_watcher.Change.{Change}

module _ {S : Type 0} where
  -- capacity 1, and new settings replace the old ones; there is at least one watcher
  pub record IsConfig (v : View S) : Type 0 where
    pub capacity : v.control.capacity ≡ 1
    pub overflow : v.control.overflow ≡ true
    pub watchers : 1 ≤ len v.control.cursors

  -- `broadcast`, then `set_overflow`: nothing is set, and there is one watcher
  pub record IsUnset (v : View S) (watcher : ℕ) : Type 0 where
    pub made : View S
    pub opened : Represents made (opening 1 0 watcher)
    pub overflow : Answers NoClone made (call.SetOverflow true) reply.SetOverflow v

  -- `try_broadcast`: done, or the settings that were refused
  abbrev pub set_answer : Result (Option S) (TrySendError S) → Result (Unit {0}) S
  set_answer (Ok replaced) = Ok tt
  set_answer (Err error) = Err (unsent_message error)

  -- `try_broadcast`: its reply, read as done or refused, and all that it changes
  pub record IsSet
      (old : View S) (settings : S) (result : Result (Unit {0}) S) (new : View S) : Type 0 where
    pub sent : Result (Option S) (TrySendError S)
    pub read : result ≡ set_answer sent
    pub answers : Answers NoClone old (call.TryBroadcast settings) (reply.TryBroadcast sent) new

  -- `poll_next`: the latest settings or a clone of them, and how many were set after the watcher's
  -- last look and before these
  pub record IsLatest
      (is_clone : S → S → Type 0) (v : View S) (watcher : ℕ) (change : Change S) : Type 0 where
    pub seen : ℕ
    pub at : get v.control.cursors watcher ≡ Some seen
    pub missed : seen + change.missed + 1 ≡ v.end
    pub latest : S
    pub kept : v.queue ≡ latest ∷ []
    pub given : IsGiven is_clone latest change.settings

  -- a watcher, if there is one, that has looked at the latest settings
  abbrev pub IsUpToDate : View S → ℕ → Type 0
  IsUpToDate v watcher = (seen : ℕ) → get v.control.cursors watcher ≡ Some seen → seen ≡ v.end

  -- nothing is set, the other watchers' cursors stay, and the channel is open if it was
  pub record KeepsOthers (old new : View S) (watcher : ℕ) : Type 0 where
    pub end : new.end ≡ old.end
    pub closed : new.control.closed ≡ old.control.closed
    pub others : (key : ℕ) → key ≢ watcher
        → get new.control.cursors key ≡ get old.control.cursors key

  -- `poll_next`: what the stream gives, if anything
  abbrev pub change_of : Poll (Option (S × ℕ)) → Option (Change S)
  change_of (poll.Ready (Some (settings, missed))) =
      Some (record { settings = settings; missed = missed })
  change_of other = None

  -- `poll_next`: a reply to this watcher, read as a change or none, and all that it changes
  pub record IsLook
      (is_clone : S → S → Type 0) (old : View S) (watcher : ℕ) (found : Option (Change S))
      (new : View S) : Type 0 where
    pub polled : Poll (Option (S × ℕ))
    pub change : found ≡ change_of polled
    pub answers : Answers is_clone old (call.PollNext watcher) (reply.PollNext (Ok polled)) new
