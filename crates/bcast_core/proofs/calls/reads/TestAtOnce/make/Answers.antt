-- These read what is a test of the view.
use Rattle.std.proofs.Common.{refl, ap}
use Rattle.bcast_model.specs.declared.run.Call.TheVariants as call
use Rattle.bcast_model.specs.declared.run.Reply.TheVariants as reply
use Rattle.bcast_core.proofs.Tail.{answers_read}
use Rattle.bcast_core.proofs.calls.reads.TestAtOnce.make.Goals as goal

pub returns-in-IsEmpty-clause-answers : goal.returns-in-IsEmpty-clause-answers
returns-in-IsEmpty-clause-answers g c = rw c.in-IsEmpty.is (answers_read {c = call.IsEmpty} c.invariant_holds.ensures (ap reply.IsEmpty c.is_empty.ensures) refl tt)

pub returns-in-IsFull-clause-answers : goal.returns-in-IsFull-clause-answers
returns-in-IsFull-clause-answers g c = rw c.in-IsFull.is (answers_read {c = call.IsFull} c.invariant_holds.ensures (ap reply.IsFull c.is_full.ensures) refl tt)

pub returns-in-Overflow-clause-answers : goal.returns-in-Overflow-clause-answers
returns-in-Overflow-clause-answers g c = rw c.in-Overflow.is (answers_read {c = call.Overflow} c.invariant_holds.ensures (ap reply.Overflow c.overflow.ensures) refl tt)

pub returns-in-AwaitActive-clause-answers : goal.returns-in-AwaitActive-clause-answers
returns-in-AwaitActive-clause-answers g c = rw c.in-AwaitActive.is (answers_read {c = call.AwaitActive} c.invariant_holds.ensures (ap reply.AwaitActive c.await_active.ensures) refl tt)

pub returns-in-IsClosed-clause-answers : goal.returns-in-IsClosed-clause-answers
returns-in-IsClosed-clause-answers g c = rw c.in-IsClosed.is (answers_read {c = call.IsClosed} c.invariant_holds.ensures (ap reply.IsClosed c.is_closed.ensures) refl tt)

pub returns-in-IsTerminated-clause-answers : goal.returns-in-IsTerminated-clause-answers
returns-in-IsTerminated-clause-answers g c = rw c.in-IsTerminated.is (answers_read {c = call.IsTerminated} c.invariant_holds.ensures (ap reply.IsTerminated c.is_terminated.ensures) refl tt)
