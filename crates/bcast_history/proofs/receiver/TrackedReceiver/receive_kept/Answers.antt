-- What was learned of each receive is what the receiver takes.
use Rattle.std.proofs.Common.{arith}
use Rattle.std.proofs.lemmas.Grind.{common_steps}
use Rattle.bcast_history.proofs.Receiving.{Batched, batched}
use Rattle.bcast_history.proofs.receiver.TrackedReceiver.receive_kept.Goals as goal
use Rattle.bcast_history.proofs.receiver.TrackedReceiver.receive_kept.Goals.{After-receive_many-count}

batch : (g : _) (c : goal.After-receive_many-count g)
    → Batched g.P.Ask.learns g.T.Clone.is_clone g.J.Channel.opening c.args.self.now.tracker c.args.msgs.now.items c.receive_many-count.result c.receive_many-count.new.msgs.items c.receive_many-count.new.caller
batch g c = batched g.P.Ask.learns g.T.Clone.is_clone c.inner-2.view_is c.inner.view_is c.key-key.ensures c.inner.invariant c.inner-2.invariant g.met.P.HistoryPort.follows c.receive_many-count.ensures.received

pub invariant_of-inner : goal.invariant_of-inner
invariant_of-inner g c = (batch g (goal.at.invariant_of-inner g c).After-receive_many-count).lawful

pub invariant_of-self : goal.invariant_of-self
invariant_of-self g c = (batch g (goal.at.invariant_of-self g c).After-receive_many-count).reads

pub returns-then-count-gt0-clause-some : goal.returns-then-count-gt0-clause-some
returns-then-count-gt0-clause-some g c =
    (c.receive_many-count.ensures.at_most, grind (arith, common_steps), (batch g (goal.at.returns-then-count-gt0-clause-some g c).After-receive_many-count).takes)

pub returns-then-count-gt0-clause-only : goal.returns-then-count-gt0-clause-only
returns-then-count-gt0-clause-only g c = (batch g (goal.at.returns-then-count-gt0-clause-only g c).After-receive_many-count).only

pub returns-in_err-reserve-clause-only : goal.returns-in_err-reserve-clause-only
returns-in_err-reserve-clause-only g c = (batch g (goal.at.returns-in_err-reserve-clause-only g c).After-receive_many-count).only

pub returns-clause-only : goal.returns-clause-only
returns-clause-only g c = (batch g (goal.at.returns-clause-only g c).After-receive_many-count).only
