-- These read a count.
use Rattle.std.proofs.Common.{refl, ap}
use Rattle.bcast_model.specs.declared.run.Call.TheVariants as call
use Rattle.bcast_model.specs.declared.run.Reply.TheVariants as reply
use Rattle.bcast_core.proofs.Tail.{answers_read}
use Rattle.bcast_core.proofs.calls.reads.CountAtOnce.make.Goals as goal

pub returns-in-Capacity-clause-answers : goal.returns-in-Capacity-clause-answers
returns-in-Capacity-clause-answers g c = rw c.in-Capacity.is (answers_read {c = call.Capacity} c.invariant_holds.ensures (ap reply.Capacity c.capacity.ensures) refl tt)

pub returns-in-Len-clause-answers : goal.returns-in-Len-clause-answers
returns-in-Len-clause-answers g c = rw c.in-Len.is (answers_read {c = call.Len} c.invariant_holds.ensures (ap reply.Len c.len.ensures) refl tt)

pub returns-in-ReceiverCount-clause-answers : goal.returns-in-ReceiverCount-clause-answers
returns-in-ReceiverCount-clause-answers g c = rw c.in-ReceiverCount.is (answers_read {c = call.ReceiverCount} c.invariant_holds.ensures (ap reply.ReceiverCount c.receiver_count.ensures) refl tt)

pub returns-in-InactiveReceiverCount-clause-answers : goal.returns-in-InactiveReceiverCount-clause-answers
returns-in-InactiveReceiverCount-clause-answers g c = rw c.in-InactiveReceiverCount.is (answers_read {c = call.InactiveReceiverCount} c.invariant_holds.ensures (ap reply.InactiveReceiverCount c.inactive_receiver_count.ensures) refl tt)

pub returns-in-SenderCount-clause-answers : goal.returns-in-SenderCount-clause-answers
returns-in-SenderCount-clause-answers g c = rw c.in-SenderCount.is (answers_read {c = call.SenderCount} c.invariant_holds.ensures (ap reply.SenderCount c.sender_count.ensures) refl tt)
