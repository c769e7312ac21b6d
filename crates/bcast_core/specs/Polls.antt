-- What the three receives that wait differ in. No public clause cites this module.
use Rattle.std.specs.Prelude.{ℕ, Option}
use Rattle.bcast_model.specs.declared.listener.Kind.{Kind}
use Rattle.bcast_model.specs.declared.listener.Kind.TheVariants as kind
use Rattle.bcast_model.specs.declared.run.Call.{Call}
use Rattle.bcast_model.specs.declared.run.Call.TheVariants as call
use Rattle.bcast_model.specs.declared.run.Reply.{Reply}
use Rattle.bcast_model.specs.declared.run.Reply.TheVariants as reply
use Rattle.bcast_model.specs.Words.{View, cursor_of, skipped_count, skipped_to}
use Rattle.bcast_model.specs.Words.{future_reply, stream_reply, next_reply, worded}
use Rattle.bcast_core.specs.declared.parts.receive.ReceivePoll.{ReceivePoll}
use Rattle.bcast_core.specs.declared.parts.receive.ReceivePoll.TheVariants as poll
use Rattle.bcast_core.specs.declared.state.receive.Received.{Received}

-- a future listens as one, and the two others as the stream
abbrev pub kind_of : ReceivePoll → Kind
kind_of poll.Future = kind.Future
kind_of other = kind.Stream

module _ {T : Type 0} where
  -- which call it is
  abbrev pub call_of : ReceivePoll → ℕ → Call T
  call_of poll.Future key = call.PollFuture key
  call_of poll.Recv key = call.PollRecv key
  call_of poll.Next key = call.PollNext key

  -- where it reads: `poll_next` no lower than the front
  abbrev pub reads_at : ReceivePoll → View T → ℕ → Option ℕ
  reads_at poll.Next v key = skipped_to v.front (cursor_of v.control key)
  reads_at other v key = cursor_of v.control key

  -- how many messages it skips before
  abbrev pub skips_of : ReceivePoll → View T → ℕ → ℕ
  skips_of poll.Next v key = skipped_count v.front (cursor_of v.control key)
  skips_of other v key = 0

  -- its reply, if this was found
  abbrev pub reply_of : ReceivePoll → Received T → Reply T
  reply_of poll.Future r = worded reply.PollFuture future_reply r.found
  reply_of poll.Recv r = worded reply.PollRecv stream_reply r.found
  reply_of poll.Next r = worded reply.PollNext (next_reply r.skips) r.found
