use Rattle.uses.proofs.Logs.{writes}
use Rattle.uses.proofs.Called.{sent_answers}
use Rattle.uses.proofs.log_fan_out.Log.write.Goals as goal

pub invariant_of-self-2 : goal.invariant_of-self-2
invariant_of-self-2 c = (writes c.in_ok-try_broadcast.ensures c.self.invariant).0

pub returns-clause-written : goal.returns-clause-written
returns-clause-written c = rw (← c.self.view_is) (writes c.in_ok-try_broadcast.ensures c.self.invariant).1

pub returns-clause-answers : goal.returns-clause-answers
returns-clause-answers c = rw (← c.self.view_is) (sent_answers c.in_ok-try_broadcast.ensures c.self.invariant.overflow)
