use Rattle.uses.proofs.Signals.{added}
use Rattle.uses.proofs.shutdown.Shutdown.add_worker.Goals as goal

pub returns-clause-ok : goal.returns-clause-ok
returns-clause-ok c = rw (← c.self.view_is) (added c.new_receiver.ensures)
