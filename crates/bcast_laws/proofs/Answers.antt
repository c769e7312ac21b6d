-- A receive returns what the messages and its own cursor say, so a clone receives the same.
use Rattle.std.proofs.Common.{◌≡◌, inl, inr, ◌≢◌, ℕ, ◌+◌, ◌-◌, ◌≤◌, ◌==◌, true, cond, [], ◌++◌, Option, Some, None, Err, nat_lt, slice_get, refl, sym, ap, ◌∙◌, arith, append-nil, Ok, is_some}
use Rattle.std.proofs.lemmas.Grind.{common_steps}
use Rattle.std.proofs.lemmas.Bool.{cases_lt}
use Rattle.std.specs.FinMap.{get}
use Rattle.bcast_model.specs.declared.error.TryRecvError.TheVariants as unread
use Rattle.bcast_model.specs.declared.run.Call.{Call}
use Rattle.bcast_model.specs.declared.run.Call.TheVariants as call
use Rattle.bcast_model.specs.declared.run.Reply.{Reply}
use Rattle.bcast_model.specs.Words.{Pair, stream_of, future_of, Control, pair_waits, pair_answered}
use Rattle.bcast_model.specs.Words.{cursor_of, View, Effect, sets, receive}
use Rattle.bcast_model.specs.Words.{listens, skipped_to, receive_poll, is_empty_reply, recv_reply}
use Rattle.bcast_model.specs.Words.{try_recv_reply, set_unless_refused, effect, History, view_of}
use Rattle.bcast_model.specs.Words.{front_number, numbered, is_out_of_memory}
use Rattle.bcast_model.specs.Words.{next, receives_for, clone_receiver, Legal, IsValid}
use Rattle.bcast_model.specs.declared.run.Reply.TheVariants as reply
use Rattle.bcast_laws.specs.Receives.{ShareMessages}
use Rattle.bcast_model.proofs.Cases.{test_is, receive_is, next_is, lagging_reply, passed_reply}
use Rattle.bcast_model.proofs.Views.{numbered-queue, first_under, front-le-cursor}
use Rattle.bcast_model.proofs.DeliveryMaps.{inserted_other, inserted}
use Rattle.bcast_model.proofs.Answers.{cursors-next}
use Rattle.bcast_laws.proofs.Sends.{apart}

-- ---- a receive doesn't change the other cursors
abbrev KeepsOther : Control → ℕ → Control → Type 0
KeepsOther old key new = (new.closed ≡ old.closed) × (get new.cursors key ≡ get old.cursors key)

receive_keeps : {T : Type 0} (v : View T) (key reader : ℕ) (cursor : Option ℕ) → reader ≢ key → KeepsOther v.control key (receive v reader cursor)
receive_keeps v key reader None differs = (refl, refl)
receive_keeps v key reader (Some cursor) differs =
    let other : key ≢ reader = λ e. differs (sym e) in
    receive_is v (KeepsOther v.control key) reader cursor (λ _. (refl, inserted_other v.control.cursors reader v.front key other)) (λ _ _. (refl, inserted_other v.control.cursors reader (cursor + 1) key other)) (λ _ _. (refl, refl))

differs_too : (one reader key : ℕ) → (one == reader) ≡ true → reader ≢ key → one ≢ key
differs_too one reader key same differs e = let is : one ≡ reader = grind (arith, common_steps, same) in differs (sym is ∙ e)

module _ {T : Type 0} where
  -- a receiver past the front finds the message there, if any
  passed_answer : (h : History T) (cursor : ℕ) → h.first ≤ h.floor → front_number h ≤ cursor → try_recv_reply (view_of h) (Some cursor) ≡ recv_reply h.control.closed (numbered h cursor)
  passed_answer h cursor low passed = passed_reply (view_of h) cursor passed ∙ ap (recv_reply h.control.closed) (sym (numbered-queue h cursor (first_under h low) passed))

  module _ (h other : History T) (key : ℕ) (low : h.first ≤ h.floor) (shared : ShareMessages h other) where
    same_number : (n : ℕ) → numbered other n ≡ numbered h n
    same_number n = λ i. cond (nat_lt n (shared.first i)) None (slice_get (shared.accepted i) (n - shared.first i))

    -- a receiver that lags is at the floor; one that doesn't has passed the front
    same_reply : (cursor : Option ℕ) → cursor_of other.control key ≡ cursor → cursor_of h.control key ≡ cursor → try_recv_reply (view_of other) cursor ≡ try_recv_reply (view_of h) cursor
    same_reply None at is = refl
    same_reply (Some cursor) at is =
        let there = front-le-cursor other key cursor at in
        let here = front-le-cursor h key cursor is in
        let floor = shared.floor in
        let first = shared.first in
        elim (cases_lt cursor h.floor) [
          | inl lags ↦
              let same : front_number other ≡ front_number h = omega (arith, floor, there, here, lags) in
              lagging_reply (view_of other) cursor (omega (arith, floor, lags)) ∙ ap (λ n. Err (unread.Overflowed (n - cursor))) same ∙ sym (lagging_reply (view_of h) cursor (omega (arith, lags)))
          | inr passed ↦
              let same : recv_reply other.control.closed (numbered other cursor) ≡ recv_reply h.control.closed (numbered h cursor) = λ i. recv_reply (shared.closed i) (same_number cursor i) in
              passed_answer other cursor (omega (arith, floor, first, low)) (omega (arith, floor, there, passed)) ∙ same ∙ sym (passed_answer h cursor low (omega (arith, here, passed)))
        ]

  pub own_answer : (h other : History T) (key : ℕ) → h.first ≤ h.floor → ShareMessages h other → cursor_of other.control key ≡ cursor_of h.control key
      → try_recv_reply (view_of other) (cursor_of other.control key) ≡ try_recv_reply (view_of h) (cursor_of h.control key)
  own_answer h other key low shared cursor = ap (try_recv_reply (view_of other)) cursor ∙ same_reply h other key low shared (cursor_of h.control key) cursor refl

  -- ---- a receive by another receiver
  record LeavesOther (v : View T) (key : ℕ) (e : Effect T) : Type 0 where
    accepted : e.accepted ≡ []
    floor : e.floor ≡ 0
    control : KeepsOther v.control key e.control

  leaves_unless : (v : View T) (key : ℕ) (c : Control) (r : Reply T) → KeepsOther v.control key c → LeavesOther v key (set_unless_refused v r c)
  leaves_unless v key c r keeps = test_is (LeavesOther v key) (is_out_of_memory r) (sets v.control) (sets c) (λ _. record { accepted = refl; floor = refl; control = (refl, refl) }) (λ _. record { accepted = refl; floor = refl; control = keeps })

  polled_leaves : (v : View T) (key : ℕ) (r : Reply T) (pair : Pair) (cursor : Option ℕ) → pair.0 ≢ key → LeavesOther v key (set_unless_refused v r (receive_poll v pair cursor))
  polled_leaves v key r pair cursor differs =
      let c : Control = receive v pair.0 cursor in
      let keeps = receive_keeps v key pair.0 cursor differs in
      leaves_unless v key (listens c pair (is_empty_reply (try_recv_reply v cursor))) r (test_is (KeepsOther v.control key) (is_empty_reply (try_recv_reply v cursor)) (pair_waits c pair) (pair_answered c pair) (λ _. keeps) (λ _. keeps))

  leaves_other : (v : View T) (key reader : ℕ) (c : Call T) (r : Reply T) → receives_for reader c ≡ true → reader ≢ key → LeavesOther v key (effect v c r)
  leaves_other v key reader (call.TryRecv one) r reads differs =
      leaves_unless v key (receive v one (cursor_of v.control one)) r (receive_keeps v key one (cursor_of v.control one) (differs_too one reader key reads differs))
  leaves_other v key reader (call.PollFuture one) r reads differs = polled_leaves v key r (future_of one) (cursor_of v.control one) (differs_too one reader key reads differs)
  leaves_other v key reader (call.PollRecv one) r reads differs = polled_leaves v key r (stream_of one) (cursor_of v.control one) (differs_too one reader key reads differs)
  leaves_other v key reader (call.PollNext one) r reads differs =
      let cursor = skipped_to v.front (cursor_of v.control one) in polled_leaves v key r (stream_of one) cursor (differs_too one reader key reads differs)
  leaves_other v key reader c r reads differs = apart reads

  pub others_answer : (h : History T) (key reader : ℕ) (c : Call T) (r : Reply T) → h.first ≤ h.floor → receives_for reader c ≡ true → reader ≢ key
      → try_recv_reply (view_of (next h c r)) (cursor_of (next h c r).control key) ≡ try_recv_reply (view_of h) (cursor_of h.control key)
  others_answer h key reader c r low reads differs =
      let leaves = leaves_other (view_of h) key reader c r reads differs in
      let floor = leaves.floor in
      let control = next_is (KeepsOther h.control key) h c r leaves.control leaves.control in
      own_answer h (next h c r) key low (record { first = refl; accepted = ap (◌++◌ h.accepted) leaves.accepted ∙ append-nil h.accepted; floor = omega (arith, floor); closed = control.0 }) control.1

record IsFresh (c : Control) (key fresh : ℕ) : Type 0 where
  there : is_some (cursor_of c key) ≡ true
  free : cursor_of c fresh ≡ None

key_differs : (c : Control) (key fresh : ℕ) → IsFresh c key fresh → key ≢ fresh
key_differs c key fresh is same = apart (ap is_some (sym is.free ∙ ap (cursor_of c) (sym same)) ∙ is.there)

-- the clone has the cursor of its original
alike_at : (c : Control) (key fresh : ℕ) (cursor : Option ℕ) → IsFresh c key fresh → cursor_of c key ≡ cursor → cursor_of (clone_receiver c cursor (Some fresh)) fresh ≡ cursor_of (clone_receiver c cursor (Some fresh)) key
alike_at c key fresh None is at = is.free ∙ sym at
alike_at c key fresh (Some cursor) is at = inserted c.cursors fresh cursor ∙ sym (inserted_other c.cursors fresh cursor key (key_differs c key fresh is) ∙ at)

module _ {T : Type 0} where
  fresh_key : (is_clone : T → T → Type 0) (v : View T) (key fresh : ℕ) → Legal is_clone v (call.CloneReceiver key) (reply.CloneReceiver (Ok fresh)) → IsFresh v.control key fresh
  fresh_key is_clone v key fresh (inl (gone, is)) = cc
  fresh_key is_clone v key fresh (inr (there, inl (made, is, free))) = record { there = there; free = ap (cursor_of v.control) (let same : fresh ≡ made = cc in same) ∙ free }
  fresh_key is_clone v key fresh (inr (there, inr is)) = cc

  stand_alike : (h : History T) (key fresh : ℕ) → IsFresh h.control key fresh → let made = next h (call.CloneReceiver key) (reply.CloneReceiver (Ok fresh)) in cursor_of made.control fresh ≡ cursor_of made.control key
  stand_alike h key fresh is =
      let same = cursors-next h (call.CloneReceiver key) (reply.CloneReceiver (Ok fresh)) in
      ap (λ m. get m fresh) same ∙ alike_at h.control key fresh (cursor_of h.control key) is refl ∙ ap (λ m. get m key) (sym same)

  pub clone_alike : (is_clone : T → T → Type 0) (h : History T) (key fresh : ℕ) (r : Reply T) → IsValid h → Legal is_clone (view_of h) (call.CloneReceiver key) (reply.CloneReceiver (Ok fresh))
      → let made = next h (call.CloneReceiver key) (reply.CloneReceiver (Ok fresh)) in let after = next made (call.TryRecv key) r in
      (try_recv_reply (view_of made) (cursor_of made.control fresh) ≡ try_recv_reply (view_of made) (cursor_of made.control key)) × (try_recv_reply (view_of after) (cursor_of after.control fresh) ≡ try_recv_reply (view_of made) (cursor_of made.control key))
  clone_alike is_clone h key fresh r valid legal =
      let made : History T = next h (call.CloneReceiver key) (reply.CloneReceiver (Ok fresh)) in
      let is = fresh_key is_clone (view_of h) key fresh legal in
      let low : made.first ≤ made.floor = omega (arith, valid.floor_low) in
      let same = ap (try_recv_reply (view_of made)) (stand_alike h key fresh is) in
      (same, others_answer made fresh key (call.TryRecv key) r low (grind (arith, common_steps)) (key_differs h.control key fresh is) ∙ same)
