-- A channel that was closed is so.
use Rattle.bcast_history.proofs.Making.{closes}
use Rattle.bcast_history.proofs.sender.TrackedSender.close.Goals as goal

pub returns-clause-closed : goal.returns-clause-closed
returns-clause-closed g c = closes c.ask.ensures.follows
