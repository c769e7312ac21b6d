use Rattle.uses.proofs.Configs.{polled}
use Rattle.uses.proofs.Looks.{looks}
use Rattle.uses.proofs.config_watcher.Config.look.Goals as goal

pub invariant_of-self-2 : goal.invariant_of-self-2
invariant_of-self-2 g c = (polled c.in_ok-poll_next.ensures.answers c.self.invariant).config

pub returns-clause-change : goal.returns-clause-change
returns-clause-change g c = rw (c.into_change.ensures, ← c.self.view_is) (looks _ c.in_ok-poll_next.ensures.answers c.self.invariant).0

pub returns-clause-none : goal.returns-clause-none
returns-clause-none g c = rw (c.into_change.ensures, ← c.self.view_is) (looks _ c.in_ok-poll_next.ensures.answers c.self.invariant).1

pub returns-clause-seen : goal.returns-clause-seen
returns-clause-seen g c = (polled c.in_ok-poll_next.ensures.answers c.self.invariant).seen

pub returns-clause-others : goal.returns-clause-others
returns-clause-others g c = rw (← c.self.view_is) (polled c.in_ok-poll_next.ensures.answers c.self.invariant).others
