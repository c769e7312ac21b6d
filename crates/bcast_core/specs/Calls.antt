-- Which call each value of a type of calls is, and which reply holds its answer.
use Rattle.std.specs.Prelude.{ℕ, Bool, Result}
use Rattle.bcast_model.specs.declared.error.HandleError.{HandleError}
use Rattle.bcast_model.specs.declared.run.Call.{Call}
use Rattle.bcast_model.specs.declared.run.Call.TheVariants as call
use Rattle.bcast_model.specs.declared.run.Reply.{Reply}
use Rattle.bcast_model.specs.declared.run.Reply.TheVariants as reply
use Rattle.bcast_core.specs.declared.calls.reads.Count.{Count}
use Rattle.bcast_core.specs.declared.calls.reads.Count.TheVariants as count
use Rattle.bcast_core.specs.declared.calls.reads.Test.{Test}
use Rattle.bcast_core.specs.declared.calls.reads.Test.TheVariants as test
use Rattle.bcast_core.specs.declared.calls.handles.AddReceiver.{AddReceiver}
use Rattle.bcast_core.specs.declared.calls.handles.AddReceiver.TheVariants as receiver
use Rattle.bcast_core.specs.declared.calls.handles.AddHandle.{AddHandle}
use Rattle.bcast_core.specs.declared.calls.handles.AddHandle.TheVariants as handle
use Rattle.bcast_core.specs.declared.calls.handles.Change.{Change}
use Rattle.bcast_core.specs.declared.calls.handles.Change.TheVariants as change

module _ {T : Type 0} where
  abbrev pub count_call : Count → Call T
  count_call count.Capacity = call.Capacity
  count_call count.Len = call.Len
  count_call count.ReceiverCount = call.ReceiverCount
  count_call count.InactiveReceiverCount = call.InactiveReceiverCount
  count_call count.SenderCount = call.SenderCount

  abbrev pub count_reply : Count → ℕ → Reply T
  count_reply count.Capacity = reply.Capacity
  count_reply count.Len = reply.Len
  count_reply count.ReceiverCount = reply.ReceiverCount
  count_reply count.InactiveReceiverCount = reply.InactiveReceiverCount
  count_reply count.SenderCount = reply.SenderCount

  abbrev pub test_call : Test → Call T
  test_call test.Overflow = call.Overflow
  test_call test.AwaitActive = call.AwaitActive
  test_call test.IsEmpty = call.IsEmpty
  test_call test.IsFull = call.IsFull
  test_call test.IsClosed = call.IsClosed
  test_call test.IsTerminated = call.IsTerminated

  abbrev pub test_reply : Test → Bool → Reply T
  test_reply test.Overflow = reply.Overflow
  test_reply test.AwaitActive = reply.AwaitActive
  test_reply test.IsEmpty = reply.IsEmpty
  test_reply test.IsFull = reply.IsFull
  test_reply test.IsClosed = reply.IsClosed
  test_reply test.IsTerminated = reply.IsTerminated

  abbrev pub receiver_call : AddReceiver → Call T
  receiver_call receiver.New = call.NewReceiver
  receiver_call receiver.Activate = call.Activate
  receiver_call receiver.ActivateCloned = call.ActivateCloned
  receiver_call (receiver.Clone key) = call.CloneReceiver key

  abbrev pub receiver_reply : AddReceiver → Result ℕ HandleError → Reply T
  receiver_reply receiver.New = reply.NewReceiver
  receiver_reply receiver.Activate = reply.Activate
  receiver_reply receiver.ActivateCloned = reply.ActivateCloned
  receiver_reply (receiver.Clone key) = reply.CloneReceiver

  abbrev pub handle_call : AddHandle → Call T
  handle_call handle.Sender = call.NewSender
  handle_call handle.Inactive = call.CloneInactive
  handle_call (handle.Deactivated key) = call.Deactivate key

  abbrev pub handle_reply : AddHandle → Result (Unit {0}) HandleError → Reply T
  handle_reply handle.Sender = reply.NewSender
  handle_reply handle.Inactive = reply.CloneInactive
  handle_reply (handle.Deactivated key) = reply.Deactivate

  abbrev pub change_call : Change → Call T
  change_call (change.EndSend place) = call.EndSend place
  change_call (change.EndFuture key) = call.EndFuture key
  change_call (change.SetOverflow on) = call.SetOverflow on
  change_call (change.SetAwaitActive on) = call.SetAwaitActive on
  change_call change.DropSender = call.DropSender
  change_call change.DropInactive = call.DropInactive
  change_call (change.DropReceiver key) = call.DropReceiver key

  abbrev pub change_reply : Change → Unit {0} → Reply T
  change_reply (change.EndSend place) _ = reply.EndSend
  change_reply (change.EndFuture key) _ = reply.EndFuture
  change_reply (change.SetOverflow on) _ = reply.SetOverflow
  change_reply (change.SetAwaitActive on) _ = reply.SetAwaitActive
  change_reply change.DropSender _ = reply.DropSender
  change_reply change.DropInactive _ = reply.DropInactive
  change_reply (change.DropReceiver key) _ = reply.DropReceiver
