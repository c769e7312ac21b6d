-- What is known then is a run.
use Rattle.bcast_history.proofs.sender.TrackedSender.broadcast_timeout.Goals as goal

pub invariant_of-self : goal.invariant_of-self
invariant_of-self g c = (g.met.P.HistoryPort.follows _ _ _ _ c.send_within.ensures.learned).follows.lawful
