-- Who waits, and who is told of a message that was accepted. No public clause cites this module.
use Rattle.std.specs.Prelude.{◌≡◌, Bool, false, is_ok, if◌then◌else◌}
use Rattle.bcast_model.specs.declared.run.SendPoll.{SendPoll}
use Rattle.bcast_model.specs.declared.run.SendPoll.TheVariants as send
use Rattle.bcast_model.specs.Words.{no_listeners, tell_all, Control, tell_receivers, View}
use Rattle.bcast_model.specs.Words.{is_in, untold_ids, Pair, same_pair}

-- no send waits, and no receiver
pub record NobodyWaits (c : Control) : Type 0 where
  pub sends : c.waiting_sends ≡ no_listeners
  pub receives : c.waiting_receives ≡ no_listeners

-- whether this listener is listed and not told
abbrev pub is_untold : Control → Pair → Bool
is_untold c pair = is_in same_pair pair (untold_ids c.waiting_receives)

module _ {T : Type 0} where
  -- if a message was accepted, everyone that waits to receive is told; and everyone that waits to
  -- send, if it closed the channel
  abbrev pub tell_news : Bool → View T → View T
  tell_news is_accepted v =
      let told = tell_receivers v.control in
      let closed = record told { waiting_sends = tell_all v.control.waiting_sends } in
      if is_accepted then record v { control = if v.control.closed then closed else told } else v

  -- whether a send that may wait was accepted
  abbrev pub is_accepted : SendPoll T → Bool
  is_accepted (send.Ready answer) = is_ok answer
  is_accepted (send.Wait msg) = false
