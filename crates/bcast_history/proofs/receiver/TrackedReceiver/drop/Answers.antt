-- The receiver's last call is by what it knew.
use Rattle.bcast_model.specs.declared.run.Call.TheVariants as call
use Rattle.bcast_history.proofs.Making.{by_key}
use Rattle.bcast_history.proofs.receiver.TrackedReceiver.drop.Goals as goal

pub returns : goal.returns
returns g c = (c.ask.new.self, (by_key g.met.P.HistoryPort.follows c.tracker.view_is c.key.ensures c.tracker.invariant call.DropReceiver c.ask.ensures).once)
