-- The list of messages that a copy of a call or of its reply needs. No public clause names this.
use Rattle.std.specs.Prelude.{◌≡◌, List, Option, Some, None, Err}
use Rattle.bcast_model.specs.declared.run.Call.{Call}
use Rattle.bcast_model.specs.declared.run.Reply.{Reply}
use Rattle.bcast_model.specs.Words.{unsent_message}
use Rattle.bcast_model.specs.declared.run.Call.TheVariants as call
use Rattle.bcast_model.specs.declared.run.Reply.TheVariants as reply

module _ {T : Type 0} where
  -- `try_broadcast_all`: the list of a call that has one
  abbrev pub list_of : Call T → Option (List T)
  list_of (call.TryBroadcastAll msgs) = Some msgs
  list_of c = None

  -- if a reply hands a list back, it is this one
  abbrev pub IsListOf : Option (List T) → Reply T → Type 0
  IsListOf list (reply.TryBroadcastAll (Err error)) = list ≡ Some (unsent_message error)
  IsListOf list r = Unit {0}
