-- The reply is one that the channel may give.
use Rattle.std.proofs.Common.{refl}
use Rattle.bcast_model.proofs.Answers.{possible}
use Rattle.async_broadcast.proofs.lock.asking.LockAskCaller.ask.Goals as goal

pub append-requires-clause-answers : goal.append-requires-clause-answers
append-requires-clause-answers g c =
    rw (c.of-before.ensures, c.of-asked.ensures) c.make-answer.ensures.answers

pub returns-clause-gave : goal.returns-clause-gave
returns-clause-gave g c = possible refl c.make-answer.ensures.answers
