-- What was learned is what the receiver takes.
use Rattle.std.proofs.Common.{sym, subst, ◌∙◌}
use Rattle.bcast_history.specs.Tracker.{IsReceiver}
use Rattle.bcast_history.proofs.Making.{receives}
use Rattle.bcast_history.proofs.receiver.TrackedReceiver.recv_timeout.Goals as goal

pub invariant_of-inner : goal.invariant_of-inner
invariant_of-inner g c = (g.met.P.HistoryPort.follows _ _ _ _ c.receive_within.ensures.learned).follows.lawful

pub invariant_of-self : goal.invariant_of-self
invariant_of-self g c =
    (receives g.met.P.HistoryPort.follows (c.inner-2.view_is ∙ c.inner.view_is) c.key-key.ensures (subst IsReceiver (sym c.inner-2.view_is) c.inner.invariant) c.receive_within.ensures.learned).0

pub returns : goal.returns
returns g c =
    (receives g.met.P.HistoryPort.follows (c.inner-2.view_is ∙ c.inner.view_is) c.key-key.ensures (subst IsReceiver (sym c.inner-2.view_is) c.inner.invariant) c.receive_within.ensures.learned).1
