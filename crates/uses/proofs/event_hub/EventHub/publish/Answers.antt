use Rattle.std.proofs.Common.{◌∙◌}
use Rattle.bcast_model.proofs.Cases.{on_err}
use Rattle.uses.proofs.Called.{refused, sent_last, sent_answers}
use Rattle.uses.proofs.event_hub.EventHub.publish.Goals as goal

pub returns-clause-accepted : goal.returns-clause-accepted
returns-clause-accepted g c = rw (← c.self.view_is) (sent_last c.in_ok-try_broadcast.ensures c.self.invariant.overflow).0

pub returns-clause-counted : goal.returns-clause-counted
returns-clause-counted g c = rw (← c.self.view_is) (sent_last c.in_ok-try_broadcast.ensures c.self.invariant.overflow).1

pub returns-clause-answers : goal.returns-clause-answers
returns-clause-answers g c = rw (← c.self.view_is) (sent_answers c.in_ok-try_broadcast.ensures c.self.invariant.overflow)

pub returns-in_err-try_broadcast-clause-err : goal.returns-in_err-try_broadcast-clause-err
returns-in_err-try_broadcast-clause-err g c = on_err c.from_residual.result (refused c.in_err-try_broadcast.ensures ∙ c.self.view_is)
