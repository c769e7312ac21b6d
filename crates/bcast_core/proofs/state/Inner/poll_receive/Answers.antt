-- What was found is returned in the word of the call.
use Rattle.bcast_core.proofs.Common.{sym, subst, IsShown, shown_after}
use Rattle.bcast_core.proofs.ReceivePolls.{received_by}
use Rattle.bcast_core.proofs.state.Inner.poll_receive.Goals as goal

pub returns-clause-answers : goal.returns-clause-answers
returns-clause-answers g c =
    let polled = c.in_ok-found.ensures in
    received_by c.args.poll c.args.self.now c.self.inside.parts c.poll.new.self c.args.key c.reads_at-at.result.1 c.kind.result c.reads_at-at.result.0 c.in_ok-found.found
    c.self.view_is c.self.invariant c.kind.ensures c.reads_at-at.ensures.at c.reads_at-at.ensures.skips (polled.found, polled.ok, polled.err)

pub invariant_of-self : goal.invariant_of-self
invariant_of-self g c = subst IsShown (sym c.in_err-found.ensures.same) c.self.invariant

pub invariant_of-self-2 : goal.invariant_of-self-2
invariant_of-self-2 g c = shown_after (returns-clause-answers g c)
