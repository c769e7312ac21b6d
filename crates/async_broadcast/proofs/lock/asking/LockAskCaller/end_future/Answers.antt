-- A channel may give this reply at any time.
use Rattle.std.proofs.Common.{refl, arith}
use Rattle.bcast_model.specs.History.{opening}
use Rattle.bcast_model.proofs.Answers.{possible}
use Rattle.bcast_model.proofs.Clones.{answers_any}
use Rattle.bcast_model.proofs.Opening.{opening_valid}
use Rattle.async_broadcast.proofs.lock.asking.LockAskCaller.end_future.Goals as goal

pub returns-then-is_answered-clause-gave : goal.returns-then-is_answered-clause-gave
returns-then-is_answered-clause-gave g c =
    (opening 1 0 0, opening_valid 1 0 0 (omega arith) (omega arith) (omega arith), refl)

pub append-requires-clause-answers : goal.append-requires-clause-answers
append-requires-clause-answers g c =
    rw (c.of-before.ensures, c.of-asked.ensures)
    (answers_any {q = g.T.Clone.is_clone} c.take_future-notice.ensures)

pub returns-clause-gave : goal.returns-clause-gave
returns-clause-gave g c =
    possible {is_clone = g.T.Clone.is_clone} refl (answers_any c.take_future-notice.ensures)
