-- The receiver skips, and then it finds a message, or that it has read all.
use Rattle.std.proofs.Common.{inl, inr, Some, None, refl, sym, ap, subst}
use Rattle.std.proofs.lemmas.Result.{MatchResult-from_err}
use Rattle.futures.specs.declared.task.Poll.TheVariants as poll
use Rattle.bcast_history.specs.History.{end_of}
use Rattle.bcast_history.specs.Reader.{IsShared}
use Rattle.bcast_history.specs.Tracker.{Tracker, number}
use Rattle.bcast_history.proofs.Receiving.{receives_on, receives_one, receives_refused}
use Rattle.bcast_history.proofs.Skipped.{skips, finds_next, errs_next}
use Rattle.bcast_history.proofs.receiver.TrackedReceiver.poll_next.Goals as goal

pub loop-preserved : goal.loop-preserved
loop-preserved g c =
    let polled = c.in_ok-items.ensures.polled in
    let arm = c.in-Ready-Some-Err-Overflowed in
    let takes = rw (arm.is, arm.field-0-is, arm.field-0-0-is, arm.field-0-0-0-is) at polled.takes in (
      tt,
      tt,
      skips g.T.Clone.is_clone _ _ _ _ c.loop.invariant.2 polled.seen _ (receives_one (inr refl) polled) takes,
      λ fact held. c.in_ok-items.ensures.kept fact (c.loop.invariant.3 fact held),
    )

pub returns-in_err-items-clause-takes : goal.returns-in_err-items-clause-takes
returns-in_err-items-clause-takes g c =
    let polled = c.in_err-items.ensures in
    errs_next g.T.Clone.is_clone _ _ c.loop.self.tracker c.poll_recv.new.self.tracker c.loop.invariant.2 (receives_refused polled.refused).seen c.from_residual.result c.from_residual.ensures.0
    (elim polled.refused [ inl same ↦ ap (λ (t : Tracker g.row.T.Denot). number t.next) same.0 | inr by ↦ by.takes.0 ])

pub returns-in_err-items-clause-refused : goal.returns-in_err-items-clause-refused
returns-in_err-items-clause-refused g c =
    let h = end_of g.J.Channel.opening c.poll_recv.new.self.tracker.steps in
    MatchResult-from_err c.from_residual.result _ _ c.from_residual.ensures.0 (λ error. elim c.in_err-items.ensures.refused [
      | inl same ↦ inl same.1
      | inr by ↦ inr (subst (λ key. IsShared h key (number c.poll_recv.new.self.tracker.next)) (sym by.key) (subst (IsShared h c.loop.self.tracker.key) (sym by.takes.0) by.takes.1))
    ])

pub returns-in-Pending-clause-takes : goal.returns-in-Pending-clause-takes
returns-in-Pending-clause-takes g c =
    let polled = c.in_ok-items.ensures.polled in
    finds_next g.T.Clone.is_clone _ _ c.loop.self.tracker c.poll_recv.new.self.tracker c.loop.invariant.2 polled.seen poll.Pending (rw c.in-Pending.is at polled.takes)

pub returns-in-Ready-None-clause-takes : goal.returns-in-Ready-None-clause-takes
returns-in-Ready-None-clause-takes g c =
    let polled = c.in_ok-items.ensures.polled in
    finds_next g.T.Clone.is_clone _ _ c.loop.self.tracker c.poll_recv.new.self.tracker c.loop.invariant.2 polled.seen (poll.Ready None) (rw (c.in-Ready-None.is, c.in-Ready-None.field-0-is) at polled.takes)

pub returns-in-Ready-Some-Ok-clause-takes : goal.returns-in-Ready-Some-Ok-clause-takes
returns-in-Ready-Some-Ok-clause-takes g c =
    let polled = c.in_ok-items.ensures.polled in
    let arm = c.in-Ready-Some-Ok in
    finds_next g.T.Clone.is_clone _ _ c.loop.self.tracker c.poll_recv.new.self.tracker c.loop.invariant.2 polled.seen (poll.Ready (Some arm.msg)) (rw (arm.is, arm.field-0-is, arm.field-0-0-is) at polled.takes)

pub returns-in-Ready-Some-Err-Closed-clause-takes : goal.returns-in-Ready-Some-Err-Closed-clause-takes
returns-in-Ready-Some-Err-Closed-clause-takes g c =
    let polled = c.in_ok-items.ensures.polled in
    let arm = c.in-Ready-Some-Err-Closed in
    finds_next g.T.Clone.is_clone _ _ c.loop.self.tracker c.poll_recv.new.self.tracker c.loop.invariant.2 polled.seen (poll.Ready None) (rw (arm.is, arm.field-0-is, arm.field-0-0-is, arm.field-0-0-0-is) at polled.takes)

pub returns-in_err-items-clause-only : goal.returns-in_err-items-clause-only
returns-in_err-items-clause-only g c = receives_on c.loop.invariant.2.made (receives_refused c.in_err-items.ensures.refused)

pub returns-in-Pending-clause-only : goal.returns-in-Pending-clause-only
returns-in-Pending-clause-only g c = receives_on c.loop.invariant.2.made (receives_one (inr refl) c.in_ok-items.ensures.polled)

pub returns-in-Ready-None-clause-only : goal.returns-in-Ready-None-clause-only
returns-in-Ready-None-clause-only g c = receives_on c.loop.invariant.2.made (receives_one (inr refl) c.in_ok-items.ensures.polled)

pub returns-in-Ready-Some-Ok-clause-only : goal.returns-in-Ready-Some-Ok-clause-only
returns-in-Ready-Some-Ok-clause-only g c = receives_on c.loop.invariant.2.made (receives_one (inr refl) c.in_ok-items.ensures.polled)

pub returns-in-Ready-Some-Err-Closed-clause-only : goal.returns-in-Ready-Some-Err-Closed-clause-only
returns-in-Ready-Some-Err-Closed-clause-only g c = receives_on c.loop.invariant.2.made (receives_one (inr refl) c.in_ok-items.ensures.polled)
