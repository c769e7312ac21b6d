-- If more counts as a clone, a reply stays legal; a receive hands out a kept message, or a clone.
use Rattle.std.proofs.Common.{inl, inr, ℕ, Option, List, ◌∷◌, Result, Ok, sym, ap, ◌∙◌, ◌≡◌, ◌-◌, Bool, Some, None, Err, slice_get, refl, subst, IsSomeAnd, alloc_error, arith}
use Rattle.std.proofs.lemmas.Grind.{common_steps}
use Rattle.futures.specs.declared.task.Poll.TheVariants as poll
use Rattle.bcast_model.specs.Words.{TryRecvError, Call, Reply, History, view_of, Legal, IsGiven}
use Rattle.bcast_model.specs.Words.{NoClone, ClonesEqual, IsReceivedBy, next, View, Answers, IsRun}
use Rattle.bcast_model.specs.Words.{cursor_of, skipped_to, skipped_count, future_reply}
use Rattle.bcast_model.specs.Words.{stream_reply, next_reply, recv_reply, worded, Found, try_recv_reply}
use Rattle.bcast_model.specs.Words.{IsGivenFrom, ReceivedIsGiven}
use Rattle.bcast_model.specs.declared.run.Call.TheVariants as call
use Rattle.bcast_model.specs.declared.run.Reply.TheVariants as reply
use Rattle.bcast_model.specs.declared.error.TryRecvError.TheVariants as unread
use Rattle.bcast_model.proofs.Cases.{received_is}

module _ {T : Type 0} where
  module _ (p q : T → T → Type 0) (wider : (msg given : T) → p msg given → IsGiven q msg given) where
    -- a receive legal by p is legal by q, if each clone by p is one by q, or the message itself
    received_wider : (v : View T) (key : ℕ) (cursor : Option ℕ) (spelt : Found T → Reply T) (r : Reply T) → IsReceivedBy p v key cursor spelt r → IsReceivedBy q v key cursor spelt r
    received_wider v key cursor spelt r legal = elim legal [
      | inl e ↦ inl e
      | inr s ↦ elim s.1 [
        | inl clone ↦ elim (wider clone.0 clone.1 clone.3) [
          | inl e ↦ inl (clone.4 ∙ ap (λ msg. spelt (Ok (Ok msg))) e ∙ ap (λ answer. spelt (Ok answer)) (sym clone.2))
          | inr cloned ↦ inr (s.0, inl (clone.0, clone.1, clone.2, cloned, clone.4))
        ]
        | inr e ↦ inr (s.0, inr e)
      ]
    ]

    pub legal_wider : (v : View T) (c : Call T) (r : Reply T) → Legal p v c r → Legal q v c r
    legal_wider v (call.TryRecv key) r legal = received_wider v key (cursor_of v.control key) reply.TryRecv r legal
    legal_wider v (call.PollFuture key) r legal = received_wider v key (cursor_of v.control key) (worded reply.PollFuture future_reply) r legal
    legal_wider v (call.PollRecv key) r legal = received_wider v key (cursor_of v.control key) (worded reply.PollRecv stream_reply) r legal
    legal_wider v (call.PollNext key) r legal = (
        let cursor = cursor_of v.control key in
        received_wider v key (skipped_to v.front cursor) (worded reply.PollNext (next_reply (skipped_count v.front cursor))) r legal)
    legal_wider v other r legal = legal

  pub answers_wider : {p q : T → T → Type 0} {old new : View T} {c : Call T} {r : Reply T} → ((msg given : T) → p msg given → IsGiven q msg given) → Answers p old c r new → Answers q old c r new
  answers_wider {p = p} {q = q} {old = old} {c = c} {r = r} wider a = record { shown = a.shown; legal = legal_wider p q wider old c r a.legal; represents = a.represents; valid = a.valid }

  -- a receive that gives no clone is legal whatever a clone is
  pub answers_any : {q : T → T → Type 0} {old new : View T} {c : Call T} {r : Reply T} → Answers NoClone old c r new → Answers q old c r new
  answers_any a = answers_wider (λ msg given none. absurd none) a

  -- if a clone equals its original, each message that is handed out is the message itself
  pub answers_exact : {p : T → T → Type 0} {old new : View T} {c : Call T} {r : Reply T} → ClonesEqual p → Answers p old c r new → Answers NoClone old c r new
  answers_exact equal a = answers_wider (λ msg given cloned. inl (equal msg given cloned)) a

  pub legal_exact : (p : T → T → Type 0) (v : View T) (c : Call T) (r : Reply T) → ClonesEqual p → Legal p v c r → Legal NoClone v c r
  legal_exact p v c r equal legal = legal_wider p NoClone (λ msg given cloned. inl (equal msg given cloned)) v c r legal

  pub run_exact : (p : T → T → Type 0) (h : History T) (calls : List (Call T)) (replies : List (Reply T)) → ClonesEqual p → IsRun p h calls replies → IsRun NoClone h calls replies
  run_exact p h (c ∷ calls) (r ∷ replies) equal run = (legal_exact p (view_of h) c r equal run.0, run_exact p (next h c r) calls replies equal run.1)
  run_exact p h calls replies equal run = run

module _ {T : Type 0} where
  pub found_message : (closed : Bool) (o : Option T) (msg : T) → recv_reply closed o ≡ Ok msg → o ≡ Some msg
  found_message closed (Some other) msg e = cc
  found_message closed None msg e = cc

  kept_message : (v : View T) (cursor : Option ℕ) (msg : T) → try_recv_reply v cursor ≡ Ok msg → (index : ℕ) × (slice_get v.queue index ≡ Some msg)
  kept_message v None msg e = cc
  kept_message v (Some cursor) msg e = (cursor - v.front, grind (arith, common_steps, found_message v.control.closed (slice_get v.queue (cursor - v.front)) msg, e))

  given_kept : (is_clone : T → T → Type 0) (v : View T) (cursor : Option ℕ) (msg given : T) → try_recv_reply v cursor ≡ Ok msg → IsGiven is_clone msg given → IsGivenFrom is_clone v.queue given
  given_kept is_clone v cursor msg given e is = let k = kept_message v cursor msg e in record { index = k.0; message = subst (λ o. IsSomeAnd o (λ msg. IsGiven is_clone msg given)) (sym k.1) is }

  -- a receive whose replies are made so hands out a kept message, or a clone of one
  received_from : (is_clone : T → T → Type 0) (v : View T) (key : ℕ) (cursor : Option ℕ) (spelt : Found T → Reply T) (r : Reply T) (given : T)
      → ((answer : Result T TryRecvError) → r ≡ spelt (Ok answer) → answer ≡ Ok given) → (r ≡ spelt (Err alloc_error) → ⊥) → IsReceivedBy is_clone v key cursor spelt r → IsGivenFrom is_clone v.queue given
  received_from is_clone v key cursor spelt r given one none legal = received_is (λ (now : Reply T). now ≡ r → IsGivenFrom is_clone v.queue given) is_clone v key cursor spelt r legal
      (λ e. given_kept is_clone v cursor given given (one (try_recv_reply v cursor) (sym e)) (inl refl))
      (λ _ msg x was copy e. let same : x ≡ given = (let e = one (Ok x) (sym e) in cc) in given_kept is_clone v cursor msg given was (inr (subst (is_clone msg) same copy)))
      (λ _ e. absurd (none (sym e))) refl

  future_is : (answer : Result T TryRecvError) (given : T) → future_reply answer ≡ poll.Ready (Ok given) → answer ≡ Ok given
  future_is (Err (unread.Overflowed n)) given e = cc
  future_is answer given e = cc

  stream_is : (answer : Result T TryRecvError) (given : T) → stream_reply answer ≡ poll.Ready (Some (Ok given)) → answer ≡ Ok given
  stream_is (Err (unread.Overflowed n)) given e = cc
  stream_is answer given e = cc

  next_is : (skips n : ℕ) (answer : Result T TryRecvError) (given : T) → next_reply skips answer ≡ poll.Ready (Some (given, n)) → answer ≡ Ok given
  next_is skips n (Ok msg) given e = ap (λ (p : T × ℕ). Ok p.0) (let f : ◌≡◌ {A = T × ℕ} (msg, skips) (given, n) = cc in f)
  next_is skips n (Err (unread.Overflowed m)) given e = cc
  next_is skips n answer given e = cc

  pub received_given : (is_clone : T → T → Type 0) → ReceivedIsGiven is_clone
  received_given is_clone = record {
    try_recv = λ v key given legal. received_from is_clone v key (cursor_of v.control key) reply.TryRecv (reply.TryRecv (Ok (Ok given))) given (λ answer e. cc) (λ e. cc) legal;
    poll_future = λ v key given legal. received_from is_clone v key (cursor_of v.control key) (worded reply.PollFuture future_reply) (reply.PollFuture (Ok (poll.Ready (Ok given)))) given (λ answer e. future_is answer given (cc)) (λ e. cc) legal;
    poll_recv = λ v key given legal. received_from is_clone v key (cursor_of v.control key) (worded reply.PollRecv stream_reply) (reply.PollRecv (Ok (poll.Ready (Some (Ok given))))) given (λ answer e. stream_is answer given (cc)) (λ e. cc) legal;
    poll_next = λ v key given n legal.
        let cursor : Option ℕ = skipped_to v.front (cursor_of v.control key) in
        let skips : ℕ = skipped_count v.front (cursor_of v.control key) in
        received_from is_clone v key cursor (worded reply.PollNext (next_reply skips)) (reply.PollNext (Ok (poll.Ready (Some (given, n))))) given (λ answer e. next_is skips n answer given (cc)) (λ e. cc) legal;
  }
