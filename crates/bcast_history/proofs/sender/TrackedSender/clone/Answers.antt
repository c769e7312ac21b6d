-- The last step added the sender.
use Rattle.std.proofs.Common.{inr}
use Rattle.bcast_history.proofs.sender.TrackedSender.clone.Goals as goal

pub of_sender-tracker-requires : goal.of_sender-tracker-requires
of_sender-tracker-requires g c = inr (c.in_ok-ask.ensures.follows.before, c.in_ok-ask.ensures.follows.last)
