-- Nothing was there, so one receive says what the receiver takes.
use Rattle.std.proofs.Common.{inl, refl}
use Rattle.async_broadcast.specs.Timed.{as_timed_try}
use Rattle.bcast_history.proofs.Receiving.{receives_on, receives_one, takes_last}
use Rattle.bcast_history.proofs.receiver.TrackedReceiver.recv_many_timeout.Goals as goal

pub returns-in-None-clause-takes : goal.returns-in-None-clause-takes
returns-in-None-clause-takes g c =
    let none = rw c.in-None.is at c.in_ok-count.ensures.none in
    takes_last g.P.Ask.learns g.T.Clone.is_clone g.J.Channel.opening as_timed_try c.recv_timeout.new.self.tracker c.put_last.new.msgs.items (λ _. refl) c.recv_timeout.result c.put_last.result none c.recv_timeout.ensures c.put_last.ensures

pub returns-in-None-clause-only : goal.returns-in-None-clause-only
returns-in-None-clause-only g c =
    receives_on c.in_ok-count.ensures.only (receives_one (inl refl) c.recv_timeout.ensures)
