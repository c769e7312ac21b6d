-- It reads the end.
use Rattle.bcast_core.proofs.Common.{refl, ap, answers_read}
use Rattle.bcast_model.specs.declared.run.Call.TheVariants as call
use Rattle.bcast_model.specs.declared.run.Reply.TheVariants as reply
use Rattle.bcast_core.proofs.calls.reads.EndNumberAtOnce.make.Goals as goal

pub returns-clause-answers : goal.returns-clause-answers
returns-clause-answers g c = answers_read {c = call.EndNumber} c.invariant_holds.ensures (ap reply.EndNumber c.end_number.ensures) refl tt
