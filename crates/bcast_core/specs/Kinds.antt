-- Which replies belong to which calls.
use Rattle.std.specs.Prelude.{◌≡◌}
use Rattle.bcast_model.specs.declared.run.SendPoll.{SendPoll}
use Rattle.bcast_model.specs.declared.run.SendPoll.TheVariants as send
use Rattle.bcast_model.specs.declared.run.Call.{Call}
use Rattle.bcast_model.specs.declared.run.Call.TheVariants as call
use Rattle.bcast_model.specs.declared.run.Reply.{Reply}
use Rattle.bcast_model.specs.declared.run.Reply.TheVariants as reply

-- `Send`: a message that must wait is handed back
abbrev pub HandsBack : {T : Type 0} → T → SendPoll T → Type 0
HandsBack msg (send.Wait back) = back ≡ msg
HandsBack msg (send.Ready answer) = Unit {0}

-- a reply of this variant to a send of this message, which is handed back if it must wait
abbrev pub IsAnswerTo : {T : Type 0} → T → (SendPoll T → Reply T) → Reply T → Type 0
IsAnswerTo {T} msg variant r =
    (answer : SendPoll T) × (r ≡ variant answer) × HandsBack msg answer

-- a reply of this variant
abbrev pub IsA : {T A : Type 0} → (A → Reply T) → Reply T → Type 0
IsA {T} {A} variant r = (answer : A) × (r ≡ variant answer)

module _ {T : Type 0} where
  -- the reply of the call's own name
  abbrev pub IsOfKind : Call T → Reply T → Type 0
  IsOfKind (call.TryBroadcast msg) r = IsA reply.TryBroadcast r
  IsOfKind (call.TryBroadcastAll msgs) r = IsA reply.TryBroadcastAll r
  IsOfKind (call.AttemptSend msg) r = IsAnswerTo msg reply.AttemptSend r
  IsOfKind call.BeginSend r = IsA reply.BeginSend r
  IsOfKind (call.PollSend place msg) r = IsAnswerTo msg reply.PollSend r
  IsOfKind (call.EndSend place) r = r ≡ reply.EndSend
  IsOfKind (call.TryRecv key) r = IsA reply.TryRecv r
  IsOfKind (call.PollFuture key) r = IsA reply.PollFuture r
  IsOfKind (call.EndFuture key) r = r ≡ reply.EndFuture
  IsOfKind (call.PollRecv key) r = IsA reply.PollRecv r
  IsOfKind (call.PollNext key) r = IsA reply.PollNext r
  IsOfKind call.Close r = IsA reply.Close r
  IsOfKind (call.SetCapacity n) r = IsA reply.SetCapacity r
  IsOfKind (call.SetOverflow on) r = r ≡ reply.SetOverflow
  IsOfKind (call.SetAwaitActive on) r = r ≡ reply.SetAwaitActive
  IsOfKind call.NewSender r = IsA reply.NewSender r
  IsOfKind call.CloneInactive r = IsA reply.CloneInactive r
  IsOfKind (call.Deactivate key) r = IsA reply.Deactivate r
  IsOfKind call.NewReceiver r = IsA reply.NewReceiver r
  IsOfKind call.Activate r = IsA reply.Activate r
  IsOfKind call.ActivateCloned r = IsA reply.ActivateCloned r
  IsOfKind (call.CloneReceiver key) r = IsA reply.CloneReceiver r
  IsOfKind call.DropSender r = r ≡ reply.DropSender
  IsOfKind call.DropInactive r = r ≡ reply.DropInactive
  IsOfKind (call.DropReceiver key) r = r ≡ reply.DropReceiver
  IsOfKind call.Overflow r = IsA reply.Overflow r
  IsOfKind call.AwaitActive r = IsA reply.AwaitActive r
  IsOfKind call.IsEmpty r = IsA reply.IsEmpty r
  IsOfKind call.IsFull r = IsA reply.IsFull r
  IsOfKind call.IsClosed r = IsA reply.IsClosed r
  IsOfKind call.IsTerminated r = IsA reply.IsTerminated r
  IsOfKind call.Capacity r = IsA reply.Capacity r
  IsOfKind call.Len r = IsA reply.Len r
  IsOfKind call.ReceiverCount r = IsA reply.ReceiverCount r
  IsOfKind call.InactiveReceiverCount r = IsA reply.InactiveReceiverCount r
  IsOfKind call.SenderCount r = IsA reply.SenderCount r
  IsOfKind call.EndNumber r = IsA reply.EndNumber r
