-- The receiver stays where it is.
use Rattle.std.proofs.Common.{refl}
use Rattle.bcast_history.proofs.Making.{stays_by}
use Rattle.bcast_history.proofs.receiver.TrackedReceiver.close.Goals as goal

pub invariant_of-self : goal.invariant_of-self
invariant_of-self g c = (stays_by g.met.P.HistoryPort.follows refl refl c.self.invariant (λ none. absurd (cc none)) c.ask.ensures).still

pub returns-clause-same : goal.returns-clause-same
returns-clause-same g c = (stays_by g.met.P.HistoryPort.follows c.self.view_is refl c.self.invariant (λ none. absurd (cc none)) c.ask.ensures).same
