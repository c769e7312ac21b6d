-- The log goes on, and is whole once the channel is closed.
use Rattle.bcast_history.proofs.Closed.{closed_is_last}
use Rattle.bcast_history.proofs.Logged.{longer, refused, whole}
use Rattle.bcast_history.proofs.Receiving.{receives_on}
use Rattle.bcast_history.proofs.receiver.TrackedReceiver.recv_all_blocking.Goals as goal

pub loop-preserved : goal.loop-preserved
loop-preserved g c =
    let received = c.recv_many_blocking.ensures in
    let takes = rw (c.in-Ok-Ok.is, c.in-Ok-Ok.field-0-is) at received.takes in
    (tt, tt, receives_on c.loop.invariant.2 received.only, longer _ c.loop.invariant.3 received.only.seen takes.2)

pub returns-in-Ok-Err-Overflowed-clause-cut : goal.returns-in-Ok-Err-Overflowed-clause-cut
returns-in-Ok-Err-Overflowed-clause-cut g c =
    let takes = rw (c.in-Ok-Err-Overflowed.is, c.in-Ok-Err-Overflowed.field-0-is, c.in-Ok-Err-Overflowed.field-0-0-is) at c.recv_many_blocking.ensures.takes in
    rw takes.0 (c.loop.self.tracker, c.loop.invariant.3, takes.1)

pub returns-in-Err-recv_many_blocking-clause-cut : goal.returns-in-Err-recv_many_blocking-clause-cut
returns-in-Err-recv_many_blocking-clause-cut g c =
    let received = c.recv_many_blocking.ensures in
    let takes = rw c.in-Err-recv_many_blocking.is at received.takes in
    rw takes.0 (refused _ c.recv_many_blocking.new.self.tracker c.loop.invariant.3 received.only.seen takes.1)

pub invariant_of-result : goal.invariant_of-result
invariant_of-result g c =
    let received = c.recv_many_blocking.ensures in
    let takes = rw (c.in-Ok-Err-Closed.is, c.in-Ok-Err-Closed.field-0-is, c.in-Ok-Err-Closed.field-0-0-is) at received.takes in
    rw (takes.0, c.seen-seen.ensures)
    (whole _ c.recv_many_blocking.new.self.tracker c.loop.invariant.3 received.only.seen takes.1.takes c.invariant_holds.ensures.lawful.run)

pub returns-in-Ok-Err-Closed-clause-only : goal.returns-in-Ok-Err-Closed-clause-only
returns-in-Ok-Err-Closed-clause-only g c = receives_on c.loop.invariant.2 c.recv_many_blocking.ensures.only

pub returns-in-Ok-Err-Overflowed-clause-only : goal.returns-in-Ok-Err-Overflowed-clause-only
returns-in-Ok-Err-Overflowed-clause-only g c = receives_on c.loop.invariant.2 c.recv_many_blocking.ensures.only

pub returns-in-Err-recv_many_blocking-clause-only : goal.returns-in-Err-recv_many_blocking-clause-only
returns-in-Err-recv_many_blocking-clause-only g c = receives_on c.loop.invariant.2 c.recv_many_blocking.ensures.only

pub returns-in-Ok-Err-Closed-clause-read : goal.returns-in-Ok-Err-Closed-clause-read
returns-in-Ok-Err-Closed-clause-read g c =
    let takes = rw (c.in-Ok-Err-Closed.is, c.in-Ok-Err-Closed.field-0-is, c.in-Ok-Err-Closed.field-0-0-is) at c.recv_many_blocking.ensures.takes in
    (closed_is_last g.T.Clone.is_clone).said g.J.Channel.opening c.loop.self.tracker c.recv_many_blocking.new.self.tracker takes.1.takes
