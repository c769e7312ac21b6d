-- The answer to each reply, as a script's user sees it.
use Rattle.std.specs.Prelude.{ℕ, List, Option, Some, None, Ok, Err, ◌++◌, codes, decimal}
use Rattle.bcast_model.specs.declared.error.TrySendError.TheVariants as send
use Rattle.bcast_model.specs.declared.error.TryRecvError.TheVariants as receive
use Rattle.bcast_model.specs.declared.error.HandleError.TheVariants as handle
use Rattle.bcast_model.specs.declared.run.Reply.{Reply}
use Rattle.bcast_model.specs.declared.run.Reply.TheVariants as reply
use Rattle.bcast_text.specs.Words.{bool_text, numbers_text, spaced}

-- the line that answers a reply, its LF aside; none if there was no memory for the call
abbrev pub answer_of : Reply ℕ → Option (List ℕ)
answer_of (reply.TryBroadcast (Ok None)) = Some (codes "ok")
answer_of (reply.TryBroadcast (Ok (Some oldest))) = Some (codes "ok dropped " ++ decimal oldest)
answer_of (reply.TryBroadcast (Err (send.Full msg))) = Some (codes "full " ++ decimal msg)
answer_of (reply.TryBroadcast (Err (send.Closed msg))) = Some (codes "closed " ++ decimal msg)
answer_of (reply.TryBroadcast (Err (send.Inactive msg))) = Some (codes "inactive " ++ decimal msg)
answer_of (reply.TryBroadcastAll (Ok done)) = Some (codes "ok")
answer_of (reply.TryBroadcastAll (Err (send.Full msgs))) = Some (codes "full all")
answer_of (reply.TryBroadcastAll (Err (send.Closed msgs))) = Some (codes "closed all")
answer_of (reply.TryBroadcastAll (Err (send.Inactive msgs))) = Some (codes "inactive all")
answer_of (reply.TryRecv (Ok (Ok msg))) = Some (codes "got " ++ decimal msg)
answer_of (reply.TryRecv (Ok (Err (receive.Overflowed n)))) =
    Some (codes "overflowed " ++ decimal n)
answer_of (reply.TryRecv (Ok (Err receive.Empty))) = Some (codes "empty")
answer_of (reply.TryRecv (Ok (Err receive.Closed))) = Some (codes "closed")
answer_of (reply.Close closed) = Some (bool_text closed)
answer_of (reply.Len len) = Some (decimal len)
answer_of (reply.SetCapacity (Ok done)) = Some (codes "ok")
answer_of reply.SetOverflow = Some (codes "ok")
answer_of reply.SetAwaitActive = Some (codes "ok")
answer_of reply.DropSender = Some (codes "ok")
answer_of reply.DropInactive = Some (codes "ok")
answer_of reply.DropReceiver = Some (codes "ok")
answer_of (reply.NewSender (Ok done)) = Some (codes "ok")
answer_of (reply.NewSender (Err handle.TooMany)) = Some (codes "too many")
answer_of (reply.Deactivate (Ok done)) = Some (codes "ok")
answer_of (reply.Deactivate (Err handle.TooMany)) = Some (codes "too many")
answer_of (reply.CloneReceiver (Ok key)) = Some (codes "ok")
answer_of (reply.NewReceiver (Ok key)) = Some (codes "ok")
answer_of (reply.Activate (Ok key)) = Some (codes "ok")
answer_of (reply.Activate (Err handle.Gone)) = Some (codes "gone")
answer_of r = None

-- the line that answers a batch of these messages, its LF aside
abbrev pub batch_text : List ℕ → List ℕ
batch_text msgs = spaced (codes "got") (numbers_text msgs)

-- words, and the number that follows them
abbrev pub words_text : List ℕ → Option ℕ → List ℕ
words_text words None = words
words_text words (Some n) = words ++ decimal n
