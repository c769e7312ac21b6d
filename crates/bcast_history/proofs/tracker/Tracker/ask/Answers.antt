-- What is known then is a run.
use Rattle.bcast_history.proofs.tracker.Tracker.ask.Goals as goal

pub invariant_of-self : goal.invariant_of-self
invariant_of-self g c = (g.met.P.HistoryPort.follows _ _ _ _ c.ask.ensures.learned).follows.lawful
