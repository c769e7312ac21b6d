-- The clone reads on where the receiver does, which stays there.
use Rattle.std.proofs.Common.{refl, ◌∙◌}
use Rattle.bcast_history.proofs.Making.{adder_stays, by_key, clone_starts}
use Rattle.bcast_history.proofs.Received.{reads_there}
use Rattle.bcast_model.specs.declared.run.Call.TheVariants as call
use Rattle.bcast_history.proofs.receiver.TrackedReceiver.clone.Goals as goal

pub invariant_of-self : goal.invariant_of-self
invariant_of-self g c =
    (adder_stays g.met.P.HistoryPort.follows refl c.key.ensures c.self.invariant c.add_receiver.result c.add_receiver.ensures.made c.add_receiver.ensures.refused).still

pub new-requires : goal.new-requires
new-requires g c =
    let made = c.in_ok-tracker.ensures in
    reads_there c.in_ok-tracker.tracker (clone_starts g.met.P.HistoryPort.follows refl c.key.ensures c.self.invariant made.made made.begins ∙ c.self.invariant)

pub returns-clause-same : goal.returns-clause-same
returns-clause-same g c =
    (adder_stays g.met.P.HistoryPort.follows c.self.view_is c.key.ensures c.self.invariant c.add_receiver.result c.add_receiver.ensures.made c.add_receiver.ensures.refused).same

pub returns-clause-made : goal.returns-clause-made
returns-clause-made g c =
    let made = c.in_ok-tracker.ensures in
    rw c.new.ensures (made.begins.steps, by_key g.met.P.HistoryPort.follows c.self.view_is c.key.ensures c.self.invariant call.CloneReceiver made.made)

pub returns-clause-starts : goal.returns-clause-starts
returns-clause-starts g c =
    let made = c.in_ok-tracker.ensures in
    rw c.new.ensures (clone_starts g.met.P.HistoryPort.follows c.self.view_is c.key.ensures c.self.invariant made.made made.begins)

pub returns-in_err-tracker-clause-same : goal.returns-in_err-tracker-clause-same
returns-in_err-tracker-clause-same g c =
    (adder_stays g.met.P.HistoryPort.follows c.self.view_is c.key.ensures c.self.invariant c.add_receiver.result c.add_receiver.ensures.made c.add_receiver.ensures.refused).same
