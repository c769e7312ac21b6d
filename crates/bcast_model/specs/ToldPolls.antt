-- Told polls come to rest: polls of told listeners, one after another, come to an end.
use Rattle.std.specs.Prelude.{◌≡◌, ℕ, ◌+◌, ◌*◌, ◌≤◌, Bool, true, false, not, ◌&&◌, if◌then◌else◌, List, ◌∷◌, length}
use Rattle.bcast_model.specs.Calls.{Call, Reply}
use Rattle.bcast_model.specs.declared.run.Call.TheVariants as call
use Rattle.bcast_model.specs.Listeners.{told_ids, is_in}
use Rattle.bcast_model.specs.ListenerId.{Pair, stream_of, future_of, same_place, same_pair}
use Rattle.bcast_model.specs.Control.{Control}
use Rattle.bcast_model.specs.History.{History, view_of}
use Rattle.bcast_model.specs.Legal.{Legal}
use Rattle.bcast_model.specs.Next.{is_out_of_memory, next, IsRun}
use Rattle.bcast_model.specs.Valid.{IsValid}
use Rattle.bcast_model.specs.PollLaws.{must_wait}

-- how many listeners wait, pending sends and receivers together
abbrev pub listener_count : Control → ℕ
listener_count c = length c.waiting_sends.ids + length c.waiting_receives.ids

-- how many of them are told
abbrev pub told_count : Control → ℕ
told_count c = c.waiting_sends.told + c.waiting_receives.told

module _ {T : Type 0} where
  -- whether a call polls one of these pending sends, or one of these receivers' listeners
  abbrev pub polls_one_of : List ℕ → List Pair → Call T → Bool
  polls_one_of places pairs (call.PollSend place msg) = is_in same_place place places
  polls_one_of places pairs (call.PollFuture key) = is_in same_pair (future_of key) pairs
  polls_one_of places pairs (call.PollRecv key) = is_in same_pair (stream_of key) pairs
  polls_one_of places pairs (call.PollNext key) = is_in same_pair (stream_of key) pairs
  polls_one_of places pairs c = false

  -- whether it polls a listener that waits
  abbrev pub polls_listed : Control → Call T → Bool
  polls_listed c = polls_one_of c.waiting_sends.ids c.waiting_receives.ids

  -- whether it polls one that is told
  abbrev pub polls_told : Control → Call T → Bool
  polls_told c = polls_one_of (told_ids c.waiting_sends) (told_ids c.waiting_receives)

  -- how many calls in a row, from the first on, poll a listener that is told just before, and are
  -- not out of memory
  abbrev pub told_polls : History T → List (Call T) → List (Reply T) → ℕ
  told_polls h (c ∷ calls) (r ∷ replies) =
      if polls_told h.control c && not (is_out_of_memory r)
      then 1 + told_polls (next h c r) calls replies
      else 0
  told_polls h calls replies = 0

-- a state, and the calls and replies that follow it
pub record ComesToRest
    {T : Type 0} (is_clone : T → T → Type 0) (h : History T)
    (calls : List (Call T)) (replies : List (Reply T)) : Type 0 where
  -- if n listeners wait, at most n (n + 1) / 2 polls of told ones follow in a row
  pub few : 2 * told_polls h calls replies
      ≤ listener_count h.control * (listener_count h.control + 1)
  -- if none of them is told, each poll of one must wait
  pub quiet : (c : Call T) (r : Reply T) → told_count h.control ≡ 0
      → polls_listed h.control c ≡ true → Legal is_clone (view_of h) c r → must_wait r ≡ true

-- told polls come to rest in each run from a valid state
abbrev pub ToldPollsComeToRest : {T : Type 0} → (T → T → Type 0) → Type 0
ToldPollsComeToRest {T} is_clone =
    (h : History T) (calls : List (Call T)) (replies : List (Reply T))
    → IsValid h → IsRun is_clone h calls replies → ComesToRest is_clone h calls replies
