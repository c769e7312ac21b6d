use Rattle.std.proofs.Common.{ap, ◌∙◌}
use Rattle.uses.specs.Signal.{signal_of}
use Rattle.uses.proofs.Signals.{looked_same, looked_closed}
use Rattle.uses.proofs.shutdown.Shutdown.is_given.Goals as goal

pub returns-clause-given : goal.returns-clause-given
returns-clause-given c = c.says_closed.ensures ∙ rw (← c.self.view_is) (looked_closed c.try_recv-answer.ensures.answers c.self.invariant (rw (← c.self.view_is) at c.requires) ∙ c.self.invariant.closed)

pub returns-clause-same : goal.returns-clause-same
returns-clause-same c = rw (← c.self.view_is) (ap signal_of (looked_same c.try_recv-answer.ensures.answers c.self.invariant (rw (← c.self.view_is) at c.requires)))
