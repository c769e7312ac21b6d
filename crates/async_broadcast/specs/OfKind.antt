-- A reply that a channel may give is of its call's kind.
use Rattle.std.proofs.Common.{inl, inr, ℕ, Bool, true, false, if◌then◌else◌, Option, Result, Ok, Err, refl}
use Rattle.std.specs.declared.alloc.AllocError.{AllocError}
use Rattle.bcast_model.specs.declared.error.TrySendError.TheVariants as unsent
use Rattle.bcast_model.specs.declared.run.SendPoll.TheVariants as send
use Rattle.bcast_model.specs.declared.run.Call.TheVariants as call
use Rattle.bcast_model.specs.declared.run.Reply.TheVariants as reply
use Rattle.bcast_model.specs.declared.error.TryRecvError.{TryRecvError}
use Rattle.bcast_model.specs.declared.error.HandleError.{HandleError}
use Rattle.bcast_model.specs.declared.run.Call.{Call}
use Rattle.bcast_model.specs.declared.run.Reply.{Reply}
use Rattle.bcast_model.specs.Words.{Cursors, View, view_of}
use Rattle.bcast_model.specs.Words.{has_no_receiver, has_place, cursor_of, skipped_to, Legal}
use Rattle.bcast_model.specs.Words.{skipped_count, reply_to_attempt, attempt_send_reply, worded}
use Rattle.bcast_model.specs.Words.{future_reply, stream_reply, next_reply, IsReceivedBy, IsMade}
use Rattle.bcast_model.specs.Words.{IsMadeFrom, IsPossible}
use Rattle.bcast_core.specs.Kinds.{IsA, HandsBack, IsOfKind}

module _ {T : Type 0} where
  -- a send that must wait hands its message back, whatever the channel is
  attempted-back : (closed deserted full await : Bool) (back : Option T) (msg : T)
      → HandsBack msg (reply_to_attempt await (if closed then Err (unsent.Closed msg)
      else (if deserted then Err (unsent.Inactive msg)
      else (if full then Err (unsent.Full msg) else Ok back))))
  attempted-back true deserted full await back msg = tt
  attempted-back false true full true back msg = refl
  attempted-back false true full false back msg = tt
  attempted-back false false true await back msg = refl
  attempted-back false false false await back msg = tt

  attempt_send-back : (v : View T) (msg : T) → HandsBack msg (attempt_send_reply v msg)
  attempt_send-back v msg =
      attempted-back v.control.closed (has_no_receiver v.control) _ v.control.await_active _ msg

  poll_send-back : (there : Bool) (v : View T) (msg : T)
      → HandsBack msg (if there then attempt_send_reply v msg else send.Wait msg)
  poll_send-back true v msg = attempt_send-back v msg
  poll_send-back false v msg = refl

  received : {X : Type 0} (is_clone : T → T → Type 0) (v : View T) (key : ℕ) (cursor : Option ℕ)
      (variant : Result X AllocError → Reply T) (word : Result T TryRecvError → X) (r : Reply T)
      → IsReceivedBy is_clone v key cursor (worded variant word) r → IsA variant r
  received is_clone v key cursor variant word r (inl given) = (_, given)
  received is_clone v key cursor variant word r (inr (owes, inl clone)) = (_, clone.4)
  received is_clone v key cursor variant word r (inr (owes, inr none)) = (_, none)

  made : (cursors : Cursors) (variant : Result ℕ HandleError → Reply T) (r : Reply T)
      → IsMade cursors variant r → IsA variant r
  made cursors variant r (inl given) = (_, given.1)
  made cursors variant r (inr none) = (_, none)

  made_from : (there : Bool) (cursors : Cursors) (variant : Result ℕ HandleError → Reply T)
      (r : Reply T) → IsMadeFrom there cursors variant r → IsA variant r
  made_from there cursors variant r (inl gone) = (_, gone.1)
  made_from there cursors variant r (inr given) = made cursors variant r given.1

  legal : (is_clone : T → T → Type 0) (v : View T) (c : Call T) (r : Reply T)
      → Legal is_clone v c r → IsOfKind c r
  legal is_clone v (call.AttemptSend msg) r l = (_, l, attempt_send-back v msg)
  legal is_clone v call.BeginSend r (inl given) = (_, given.1)
  legal is_clone v call.BeginSend r (inr none) = (_, none)
  legal is_clone v (call.PollSend place msg) r l =
      (_, l, poll_send-back (has_place v.control place) v msg)
  legal is_clone v (call.EndSend place) r l = l
  legal is_clone v (call.TryRecv key) r (inl given) = (_, given)
  legal is_clone v (call.TryRecv key) r (inr (owes, inl clone)) = (_, clone.4)
  legal is_clone v (call.TryRecv key) r (inr (owes, inr none)) = (_, none)
  legal is_clone v (call.PollFuture key) r l =
      received is_clone v key (cursor_of v.control key) reply.PollFuture future_reply r l
  legal is_clone v (call.EndFuture key) r l = l
  legal is_clone v (call.PollRecv key) r l =
      received is_clone v key (cursor_of v.control key) reply.PollRecv stream_reply r l
  legal is_clone v (call.PollNext key) r l =
      received is_clone v key (skipped_to v.front (cursor_of v.control key))
      reply.PollNext (next_reply (skipped_count v.front (cursor_of v.control key))) r l
  legal is_clone v (call.SetCapacity n) r (inl given) = (_, given)
  legal is_clone v (call.SetCapacity n) r (inr none) = (_, none.0)
  legal is_clone v (call.SetOverflow on) r l = l
  legal is_clone v (call.SetAwaitActive on) r l = l
  legal is_clone v call.NewReceiver r l = made _ reply.NewReceiver r l
  legal is_clone v call.Activate r l = made_from _ _ reply.Activate r l
  legal is_clone v call.ActivateCloned r l = made_from _ _ reply.ActivateCloned r l
  legal is_clone v (call.CloneReceiver key) r l = made_from _ _ reply.CloneReceiver r l
  legal is_clone v call.DropSender r l = l
  legal is_clone v call.DropInactive r l = l
  legal is_clone v (call.DropReceiver key) r l = l
  legal is_clone v c r l = (_, l)

  pub possible : (is_clone : T → T → Type 0) (c : Call T) (r : Reply T)
      → IsPossible is_clone c r → IsOfKind c r
  possible is_clone c r may = legal is_clone (view_of may.0) c r may.2
