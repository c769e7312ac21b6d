-- What was learned is what the receiver takes.
use Rattle.bcast_history.proofs.Making.{receives}
use Rattle.bcast_history.proofs.receiver.TrackedReceiver.try_recv.Goals as goal

pub invariant_of-self : goal.invariant_of-self
invariant_of-self g c = (receives g.met.P.HistoryPort.follows c.self.view_is c.key-key.ensures c.self.invariant c.ask.ensures.once).0

pub returns : goal.returns
returns g c = (receives g.met.P.HistoryPort.follows c.self.view_is c.key-key.ensures c.self.invariant c.ask.ensures.once).1
