-- What a send adds to the accepted messages, and what a refused call leaves as it was.
use Rattle.std.specs.Prelude.{◌≡◌, ℕ, Bool, true, false, not, List, ◌∷◌, ◌++◌, [], Option, Some, None, Ok, Err}
use Rattle.bcast_model.specs.declared.error.TryRecvError.TheVariants as unread
use Rattle.bcast_model.specs.declared.run.SendPoll.TheVariants as send
use Rattle.bcast_model.specs.declared.run.Call.{Call}
use Rattle.bcast_model.specs.declared.run.Call.TheVariants as call
use Rattle.bcast_model.specs.declared.run.Reply.{Reply}
use Rattle.bcast_model.specs.declared.run.Reply.TheVariants as reply
use Rattle.bcast_model.specs.Words.{unsent_message, View, History, view_of, Legal, next, IsValid, is_out_of_memory}

module _ {T : Type 0} where
  -- `try_broadcast`, `Send`: the message that a call sends
  abbrev pub sent_by : Call T → Option T
  sent_by (call.TryBroadcast msg) = Some msg
  sent_by (call.AttemptSend msg) = Some msg
  sent_by (call.PollSend place msg) = Some msg
  sent_by c = None

  -- the messages that a call sends, in order: one, or the list of `try_broadcast_all`
  abbrev pub messages_of : Call T → List T
  messages_of (call.TryBroadcast msg) = msg ∷ []
  messages_of (call.TryBroadcastAll msgs) = msgs
  messages_of (call.AttemptSend msg) = msg ∷ []
  messages_of (call.PollSend place msg) = msg ∷ []
  messages_of c = []

  -- `TrySendError`, `SendError`, a `Send` that waits: the message that a reply hands back
  abbrev pub returned_by : Reply T → Option T
  returned_by (reply.TryBroadcast (Err error)) = Some (unsent_message error)
  returned_by (reply.AttemptSend (send.Ready (Err error))) = Some error.0
  returned_by (reply.AttemptSend (send.Wait msg)) = Some msg
  returned_by (reply.PollSend (send.Ready (Err error))) = Some error.0
  returned_by (reply.PollSend (send.Wait msg)) = Some msg
  returned_by r = None

  -- the list that a reply hands back
  abbrev pub returned_all_by : Reply T → Option (List T)
  returned_all_by (reply.TryBroadcastAll (Err error)) = Some (unsent_message error)
  returned_all_by r = None

  -- whether a reply says that a message was accepted, or a list of them
  abbrev pub is_accepted : Reply T → Bool
  is_accepted (reply.TryBroadcast (Ok back)) = true
  is_accepted (reply.TryBroadcastAll (Ok done)) = true
  is_accepted (reply.AttemptSend (send.Ready (Ok back))) = true
  is_accepted (reply.PollSend (send.Ready (Ok back))) = true
  is_accepted r = false

  -- whether a reply refuses its call: a message is handed back, nothing is there to receive, the
  -- channel was closed already, memory was refused, or no handle is made. A poll that isn't out of
  -- memory is not refused, since it changes the lists of listeners
  abbrev pub is_refused : Reply T → Bool
  is_refused (reply.TryBroadcast (Err error)) = true
  is_refused (reply.TryBroadcastAll (Err error)) = true
  is_refused (reply.AttemptSend (send.Ready (Err error))) = true
  is_refused (reply.AttemptSend (send.Wait msg)) = true
  is_refused (reply.TryRecv (Ok (Err unread.Empty))) = true
  is_refused (reply.TryRecv (Ok (Err unread.Closed))) = true
  is_refused (reply.Close was_open) = not was_open
  is_refused (reply.BeginSend (Err error)) = true
  is_refused (reply.NewSender (Err error)) = true
  is_refused (reply.CloneInactive (Err error)) = true
  is_refused (reply.Deactivate (Err error)) = true
  is_refused (reply.NewReceiver (Err error)) = true
  is_refused (reply.Activate (Err error)) = true
  is_refused (reply.ActivateCloned (Err error)) = true
  is_refused (reply.CloneReceiver (Err error)) = true
  is_refused r = is_out_of_memory r

-- a refused call leaves the channel as it was, and a send that isn't accepted returns its message
-- or its list
pub record RefusedChangesNothing {T : Type 0} (is_clone : T → T → Type 0) : Type 0 where
  pub same : (h : History T) (c : Call T) (r : Reply T) → IsValid h → Legal is_clone (view_of h) c r
      → is_refused r ≡ true → next h c r ≡ h
  pub returned : (v : View T) (c : Call T) (r : Reply T) (msg : T) → Legal is_clone v c r
      → sent_by c ≡ Some msg → is_accepted r ≡ false → returned_by r ≡ Some msg
  pub all_returned : (v : View T) (msgs : List T) (r : Reply T)
      → Legal is_clone v (call.TryBroadcastAll msgs) r → is_accepted r ≡ false
      → returned_all_by r ≡ Some msgs

-- a call adds its messages last, in order, if its reply says that they were accepted; else it adds
-- none
pub record OnlyAcceptedIsAdded {T : Type 0} (is_clone : T → T → Type 0) : Type 0 where
  pub added : (h : History T) (c : Call T) (r : Reply T) → Legal is_clone (view_of h) c r
      → is_accepted r ≡ true → (next h c r).accepted ≡ h.accepted ++ messages_of c
  pub nothing : (h : History T) (c : Call T) (r : Reply T) → Legal is_clone (view_of h) c r
      → is_accepted r ≡ false → (next h c r).accepted ≡ h.accepted

-- `Send`, dropped before it is answered: neither its polls that wait nor its drop add a message
pub record DroppedSendAddsNothing {T : Type 0} (is_clone : T → T → Type 0) : Type 0 where
  pub polled : (h : History T) (place : ℕ) (msg : T)
      → Legal is_clone (view_of h) (call.PollSend place msg) (reply.PollSend (send.Wait msg))
      → (next h (call.PollSend place msg) (reply.PollSend (send.Wait msg))).accepted ≡ h.accepted
  pub dropped : (h : History T) (place : ℕ)
      → (next h (call.EndSend place) reply.EndSend).accepted ≡ h.accepted
