-- Nothing was there, and one poll says why.
use Rattle.std.proofs.Common.{inr, refl}
use Rattle.bcast_history.proofs.Receiving.{polls_last, receives_on, receives_one, receives_refused}
use Rattle.bcast_history.proofs.receiver.TrackedReceiver.poll_recv_many.Goals as goal

pub returns-in-Ready-Some-Err-clause-takes : goal.returns-in-Ready-Some-Err-clause-takes
returns-in-Ready-Some-Err-clause-takes g c =
    let none = rw c.in_default.is at c.in_ok-count.ensures.none in
    polls_last g.T.Clone.is_clone g.J.Channel.opening c.poll_recv.new.self.tracker c.in-Ready-Some-Err.error none
    (rw (c.in-Ready-Some-Err.is, c.in-Ready-Some-Err.field-0-is, c.in-Ready-Some-Err.field-0-0-is) at c.in_ok-msg.ensures.polled.takes)

pub returns-in_err-msg-clause-only : goal.returns-in_err-msg-clause-only
returns-in_err-msg-clause-only g c =
    receives_on c.in_ok-count.ensures.only (receives_refused c.in_err-msg.ensures.refused)

pub returns-in-Ready-Some-Ok-clause-only : goal.returns-in-Ready-Some-Ok-clause-only
returns-in-Ready-Some-Ok-clause-only g c =
    receives_on c.in_ok-count.ensures.only (receives_one (inr refl) c.in_ok-msg.ensures.polled)

pub returns-in-Ready-Some-Err-clause-only : goal.returns-in-Ready-Some-Err-clause-only
returns-in-Ready-Some-Err-clause-only g c =
    receives_on c.in_ok-count.ensures.only (receives_one (inr refl) c.in_ok-msg.ensures.polled)

pub returns-in-Ready-None-clause-only : goal.returns-in-Ready-None-clause-only
returns-in-Ready-None-clause-only g c =
    receives_on c.in_ok-count.ensures.only (receives_one (inr refl) c.in_ok-msg.ensures.polled)

pub returns-in-Pending-clause-only : goal.returns-in-Pending-clause-only
returns-in-Pending-clause-only g c =
    receives_on c.in_ok-count.ensures.only (receives_one (inr refl) c.in_ok-msg.ensures.polled)
