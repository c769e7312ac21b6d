-- A receive poll, which is answered or waits.
use Rattle.std.proofs.Common.{◌≡◌, ℕ, true, false, Option, Result, Ok, Err, OnOk, OnErr, refl, sym, ap, ◌∙◌, arith, alloc_error}
use Rattle.std.proofs.lemmas.Grind.{common_steps}
use Rattle.bcast_model.specs.declared.error.TryRecvError.{TryRecvError}
use Rattle.bcast_model.specs.declared.listener.Kind.{Kind}
use Rattle.bcast_model.specs.declared.listener.Kind.TheVariants as kind
use Rattle.bcast_model.specs.declared.run.Call.{Call}
use Rattle.bcast_model.specs.declared.run.Call.TheVariants as call
use Rattle.bcast_model.specs.declared.run.Reply.{Reply}
use Rattle.bcast_model.specs.declared.run.Reply.TheVariants as reply
use Rattle.bcast_model.specs.Words.{Pair, pair_waits, pair_answered, sets, effect, HasRange, IsShown, IsValidView}
use Rattle.bcast_model.specs.Words.{IsReceivedBy, Found, worded, Legal, tell_if_ready, cursor_of}
use Rattle.bcast_model.specs.Words.{is_empty_reply, receive, receive_poll, try_recv_reply, Answers}
use Rattle.bcast_model.specs.Words.{View, settle, skipped_to, skipped_count, future_reply, stream_reply, next_reply}
use Rattle.bcast_core.specs.declared.parts.receive.ReceivePoll.{ReceivePoll}
use Rattle.bcast_core.specs.declared.parts.receive.ReceivePoll.TheVariants as poll
use Rattle.bcast_core.specs.Telling.{NobodyWaits}
use Rattle.bcast_core.specs.Polls.{kind_of, call_of, reads_at, skips_of, reply_of}
use Rattle.bcast_core.proofs.Tail.{ends, told_already, told_none, unchanged}
use Rattle.bcast_core.proofs.Receives.{settle_empty, settle_waits}
use Rattle.bcast_core.proofs.Does.{respelt}

module _ {T : Type 0} where
  -- one that finds nothing waits
  pub poll_listens : (v mid new : View T) (pair : Pair) (at : Option ℕ) → IsValidView v → is_empty_reply (try_recv_reply v at) ≡ true
      → mid ≡ settle v (sets (receive v pair.0 at)) → new ≡ record mid { control = pair_waits mid.control pair }
      → new ≡ tell_if_ready (settle v (sets (receive_poll v pair at)))
  poll_listens v mid new pair at valid empty mid_is new_is =
      new_is ∙ ap (λ (x : View T). record x { control = pair_waits x.control pair }) (settle_empty v mid pair.0 at valid empty mid_is)
      ∙ sym (told_already (record v { control = pair_waits v.control pair }) valid.wake_ups.sends) ∙ ap tell_if_ready (sym (settle_waits v pair at valid empty))

  -- one that finds something while no one waits is a receive
  pub poll_nobody : (v new : View T) (pair : Pair) (at : Option ℕ) → NobodyWaits new.control → is_empty_reply (try_recv_reply v at) ≡ false
      → new ≡ settle v (sets (receive v pair.0 at))
      → new ≡ tell_if_ready (settle v (sets (receive_poll v pair at)))
  poll_nobody v new pair at alone found is = grind (arith, common_steps, told_none)

  -- and otherwise the listener is taken out too
  pub poll_found : (v mid new : View T) (pair : Pair) (at : Option ℕ) → is_empty_reply (try_recv_reply v at) ≡ false
      → mid ≡ settle v (sets (receive v pair.0 at)) → new ≡ tell_if_ready (record mid { control = pair_answered mid.control pair })
      → new ≡ tell_if_ready (settle v (sets (receive_poll v pair at)))
  poll_found v mid new pair at found mid_is new_is = grind (arith, common_steps)

  -- what `Parts::poll` promises of what was found, and of what is seen then
  abbrev IsPolled : (T → T → Type 0) → View T → Pair → Option ℕ → Found T → View T → Type 0
  IsPolled is_clone v pair at found new =
      IsReceivedBy is_clone v pair.0 at (λ found. found) found
      × OnOk found (new ≡ tell_if_ready (settle v (sets (receive_poll v pair at)))) × OnErr found (new ≡ v)

  -- it answers a call that returns what was found, spelt so
  answers_spelt : {is_clone : T → T → Type 0} (old v new : View T) (c : Call T) (pair : Pair) (at : Option ℕ) (spelt : Found T → Reply T) (found : Found T) → v ≡ old → IsShown v → ((n : ℕ) → HasRange c n) → IsPolled is_clone v pair at found new
      → (IsReceivedBy is_clone v pair.0 at spelt (spelt found) → Legal is_clone v c (spelt found))
      → ((answer : Result T TryRecvError) → effect v c (spelt (Ok answer)) ≡ sets (receive_poll v pair at))
      → effect v c (spelt (Err alloc_error)) ≡ sets v.control → Answers is_clone old c (spelt found) new
  answers_spelt old v new c pair at spelt (Ok answer) same shown range polled means effect_ok effect_err =
      ends {mid = settle v (sets (receive_poll v pair at))} same shown (range _)
      (record { legal = means (respelt v pair.0 at spelt (Ok answer) polled.0); effect = ap (settle v) (sym (effect_ok answer)) }) polled.1
  answers_spelt old v new c pair at spelt (Err e) same shown range polled means effect_ok effect_err =
      unchanged same shown polled.2 (range _) (means (respelt v pair.0 at spelt (Err e) polled.0)) effect_err

  -- each of the three receives that wait is that of its own call
  answers_polled : {is_clone : T → T → Type 0} (poll : ReceivePoll) (old v new : View T) (key : ℕ) (found : Found T) → v ≡ old → IsShown v
      → IsPolled is_clone v (key, kind_of poll) (reads_at poll v key) found new → Answers is_clone old (call_of poll key) (reply_of poll (record { found = found; skips = skips_of poll v key })) new
  answers_polled poll.Future old v new key found same shown polled =
      answers_spelt old v new (call.PollFuture key) (key, kind.Future) (cursor_of v.control key) (worded reply.PollFuture future_reply) found same shown (λ n. tt) polled (λ legal. legal) (λ a. refl) refl
  answers_polled poll.Recv old v new key found same shown polled =
      answers_spelt old v new (call.PollRecv key) (key, kind.Stream) (cursor_of v.control key) (worded reply.PollRecv stream_reply) found same shown (λ n. tt) polled (λ legal. legal) (λ a. refl) refl
  answers_polled poll.Next old v new key found same shown polled =
      let cursor = cursor_of v.control key in
      answers_spelt old v new (call.PollNext key) (key, kind.Stream) (skipped_to v.front cursor) (worded reply.PollNext (next_reply (skipped_count v.front cursor))) found same shown (λ n. tt) polled (λ legal. legal) (λ a. refl) refl

  -- `answers_polled`, if the listener, where it read, and what it skipped were looked up
  pub received_by : {is_clone : T → T → Type 0} (poll : ReceivePoll) (old v new : View T) (key skips : ℕ) (kind : Kind) (at : Option ℕ) (found : Found T) → v ≡ old → IsShown v
      → kind ≡ kind_of poll → at ≡ reads_at poll v key → skips ≡ skips_of poll v key → IsPolled is_clone v (key, kind) at found new
      → Answers is_clone old (call_of poll key) (reply_of poll (record { found = found; skips = skips })) new
  received_by poll old v new key skips kind at found same shown kind_is at_is skips_is polled = rw skips_is (answers_polled poll old v new key found same shown (rw (kind_is, at_is) at polled))
