-- A receiver that can't leave stays where it is.
use Rattle.bcast_model.specs.declared.run.Call.TheVariants as call
use Rattle.bcast_history.proofs.Making.{by_key, leaves_not}
use Rattle.bcast_history.proofs.receiver.TrackedReceiver.deactivate.Goals as goal

pub new-requires : goal.new-requires
new-requires g c = (leaves_not g.met.P.HistoryPort.follows c.tracker.view_is c.key.ensures c.tracker.invariant c.in-Err.ensures).still

pub returns-in-Ok-clause-made : goal.returns-in-Ok-clause-made
returns-in-Ok-clause-made g c = by_key g.met.P.HistoryPort.follows c.tracker.view_is c.key.ensures c.tracker.invariant call.Deactivate c.in-Ok.ensures

pub returns-in-Err-clause-refused : goal.returns-in-Err-clause-refused
returns-in-Err-clause-refused g c =
    let same = (leaves_not g.met.P.HistoryPort.follows c.tracker.view_is c.key.ensures c.tracker.invariant c.in-Err.ensures).same in
    rw c.new.ensures (same, by_key g.met.P.HistoryPort.follows c.tracker.view_is c.key.ensures c.tracker.invariant call.Deactivate c.in-Err.ensures)
