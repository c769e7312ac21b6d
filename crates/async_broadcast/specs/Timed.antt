-- What calls with a limit of time return, and what loops over a receiver do.
use Rattle.std.specs.Prelude.{◌≡◌, ◌⊎◌, ℕ, List, ◌++◌, codes, Option, Some, None, Result, Ok, Err}
use Rattle.std.specs.Fmt.{decimal}
use Rattle.std.specs.declared.alloc.AllocError.{AllocError}
use Rattle.bcast_model.specs.declared.error.RecvError.TheVariants as unreceived
use Rattle.bcast_model.specs.declared.error.TryRecvError.TheVariants as unread
use Rattle.bcast_model.specs.declared.run.SendPoll.TheVariants as send
use Rattle.async_broadcast.specs.declared.timed.SendTimeoutError.{SendTimeoutError}
use Rattle.async_broadcast.specs.declared.timed.SendTimeoutError.TheVariants as timed_send
use Rattle.async_broadcast.specs.declared.timed.RecvTimeoutError.{RecvTimeoutError}
use Rattle.async_broadcast.specs.declared.timed.RecvTimeoutError.TheVariants as timed_receive
use Rattle.bcast_model.specs.declared.error.RecvError.{RecvError}
use Rattle.bcast_model.specs.declared.run.SendPoll.{SendPoll}
use Rattle.bcast_model.specs.Words.{Found}

module _ {T : Type 0} where
  -- `broadcast_timeout`: its result, as the last try returned it, which must wait at the limit
  abbrev pub as_attempt : Result (Option T) (SendTimeoutError T) → SendPoll T
  as_attempt (Ok dropped) = send.Ready (Ok dropped)
  as_attempt (Err (timed_send.Refused msg)) = send.Ready (Err (record { 0 = msg }))
  as_attempt (Err (timed_send.Timeout msg)) = send.Wait msg

  -- `recv_timeout`: its result, as `try_recv` returns it, which finds nothing at the limit
  abbrev pub as_timed_try : Result (Result T RecvTimeoutError) AllocError → Found T
  as_timed_try (Ok (Ok msg)) = Ok (Ok msg)
  as_timed_try (Ok (Err (timed_receive.Overflowed n))) = Ok (Err (unread.Overflowed n))
  as_timed_try (Ok (Err timed_receive.Timeout)) = Ok (Err unread.Empty)
  as_timed_try (Ok (Err timed_receive.Closed)) = Ok (Err unread.Closed)
  as_timed_try (Err error) = Err error

  -- `iter`: an item, or the end, as `recv_blocking` returns it
  abbrev pub as_received : Option (Result (Result T RecvError) AllocError)
      → Result (Result T RecvError) AllocError
  as_received (Some received) = received
  as_received None = Ok (Err unreceived.Closed)

  -- an item isn't `Closed`, which ends the loop
  abbrev pub IsNoEnd : Result (Result T RecvError) AllocError → Type 0
  IsNoEnd received = received ≡ Ok (Err unreceived.Closed) → ⊥

  -- `try_iter`: the loop ends where `try_recv` finds nothing, or if no turn is left
  abbrev pub EndsLoop : (Found T → Type 0) → ℕ → Type 0
  EndsLoop Found turns =
      Found (Ok (Err unread.Empty)) ⊎ Found (Ok (Err unread.Closed)) ⊎ (turns ≡ 0)

  -- `SendTimeoutError::into_inner`: the message that was not sent
  abbrev pub unsent_message : SendTimeoutError T → T
  unsent_message (timed_send.Timeout msg) = msg
  unsent_message (timed_send.Refused msg) = msg

  -- `SendTimeoutError`, as `{}` prints it
  abbrev pub send_timeout_text : SendTimeoutError T → List ℕ
  send_timeout_text (timed_send.Timeout msg) = codes "sending timed out"
  send_timeout_text (timed_send.Refused msg) = codes "sending into a closed channel"

  -- `SendTimeoutError`, as `{:?}` prints it
  abbrev pub send_timeout_debug : SendTimeoutError T → List ℕ
  send_timeout_debug (timed_send.Timeout msg) = codes "Timeout(..)"
  send_timeout_debug (timed_send.Refused msg) = codes "Refused(..)"

-- `RecvTimeoutError`, as `{}` prints it
abbrev pub recv_timeout_text : RecvTimeoutError → List ℕ
recv_timeout_text (timed_receive.Overflowed missed) =
    codes "receiving skipped " ++ decimal missed ++ codes " messages"
recv_timeout_text timed_receive.Timeout = codes "receiving timed out"
recv_timeout_text timed_receive.Closed = codes "receiving from an empty and closed channel"
