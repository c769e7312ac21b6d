-- What was learned is what the receiver takes. A poll that wasn't made changes nothing.
use Rattle.std.proofs.Common.{sym, subst, ◌∙◌}
use Rattle.bcast_history.specs.Makes.{PollsOnce}
use Rattle.bcast_history.specs.Tracker.{IsReceiver}
use Rattle.bcast_history.proofs.Making.{poll_stays, polls}
use Rattle.bcast_history.proofs.Received.{if_err, if_ok}
use Rattle.bcast_history.proofs.receiver.TrackedReceiver.poll_recv.Goals as goal

pub invariant_of-inner : goal.invariant_of-inner
invariant_of-inner g c =
    (poll_stays g.met.P.HistoryPort.follows c.poll.new.caller c.key-key.ensures (subst IsReceiver (sym c.inner-2.view_is) c.inner.invariant) c.inner-2.invariant _ c.poll.result c.poll.ensures.learned c.poll.ensures.back).1

pub invariant_of-self : goal.invariant_of-self
invariant_of-self g c =
    (poll_stays g.met.P.HistoryPort.follows c.poll.new.caller c.key-key.ensures (subst IsReceiver (sym c.inner-2.view_is) c.inner.invariant) c.inner-2.invariant _ c.poll.result c.poll.ensures.learned c.poll.ensures.back).0

pub returns-in-Ok-clause-polled : goal.returns-in-Ok-clause-polled
returns-in-Ok-clause-polled g c =
    if_ok (PollsOnce g.P.Ask.learns g.T.Clone.is_clone g.J.Channel.opening _ _) c.in-Ok.polled
    (polls g.met.P.HistoryPort.follows (c.inner-2.view_is ∙ c.inner.view_is) c.key-key.ensures (subst IsReceiver (sym c.inner-2.view_is) c.inner.invariant) c.in-Ok.ensures.learned).1

pub returns-in-Ok-clause-refused : goal.returns-in-Ok-clause-refused
returns-in-Ok-clause-refused g c =
    if_err (PollsOnce g.P.Ask.learns g.T.Clone.is_clone g.J.Channel.opening _ _) _ c.in-Ok.polled
    (polls g.met.P.HistoryPort.follows (c.inner-2.view_is ∙ c.inner.view_is) c.key-key.ensures (subst IsReceiver (sym c.inner-2.view_is) c.inner.invariant) c.in-Ok.ensures.learned).1
