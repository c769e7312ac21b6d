-- The drop's call is the last.
use Rattle.bcast_history.proofs.sender.TrackedSender.drop.Goals as goal

pub returns : goal.returns
returns g c = (c.ask.new.self, c.ask.ensures.once)
