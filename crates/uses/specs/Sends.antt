-- What a send returns if nothing overflows.
use Rattle.std.specs.Prelude.{◌==◌, if◌then◌else◌, length, Option, None, Result, Ok, Err}
use Rattle.bcast_model.specs.declared.error.TrySendError.TheVariants as unsent
use Rattle.bcast_model.specs.declared.error.TrySendError.{TrySendError}
use Rattle.bcast_model.specs.Words.{has_no_receiver, View}

module _ {T : Type 0} where
  -- `try_broadcast`: the first of its reasons to refuse that holds, or none
  abbrev pub send_answer : View T → T → Result (Unit {0}) (TrySendError T)
  send_answer v msg =
      if v.control.closed then Err (unsent.Closed msg)
      else (if has_no_receiver v.control then Err (unsent.Inactive msg)
      else (if length v.queue == v.control.capacity then Err (unsent.Full msg) else Ok tt))

  -- the reply of `try_broadcast`: no message is handed back
  abbrev pub send_reply : Result (Unit {0}) (TrySendError T) → Result (Option T) (TrySendError T)
  send_reply (Ok done) = Ok None
  send_reply (Err error) = Err error
