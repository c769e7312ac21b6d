-- What is seen after a call, whatever sends are told; cursors that moved; and a message that is sent.
use Rattle.std.proofs.Common.{◌≡◌, ℕ, ◌≤◌, true, false, cond, Option, Some, None, refl, sym, ap, ◌∙◌, subst, arith, IsSome, ◌∷◌, ◌++◌, [], ◌+◌, ◌&&◌, not, Bool, Result, Ok, Err, rules, true≢false, is_ok, nat_cmp}
use Rattle.std.proofs.lemmas.Grind.{common_steps}
use Rattle.std.specs.Ordering.{eq_by_cmp}
use Rattle.std.specs.Cmp.{nat_cmp_total}
use Rattle.std.specs.FinMap.{get, insert, get-insert}
use Rattle.bcast_model.specs.declared.run.Call.{Call}
use Rattle.bcast_model.specs.declared.run.Reply.{Reply}
use Rattle.bcast_model.specs.declared.error.TrySendError.{TrySendError}
use Rattle.bcast_model.specs.Words.{Cursors, Listeners, tell, sets, effect, settle, tell_if_ready}
use Rattle.bcast_model.specs.Words.{View, Answers, IsValidView, has_no_receiver, handed_back}
use Rattle.bcast_model.specs.Words.{try_broadcast_reply, accept, with_message, is_full}
use Rattle.bcast_model.specs.declared.run.Call.TheVariants as call
use Rattle.bcast_model.specs.declared.run.Reply.TheVariants as reply
use Rattle.bcast_model.proofs.Answers.{shown_after, steps}
use Rattle.bcast_model.proofs.Cases.{told_is, told_valid, try_is}
use Rattle.bcast_core.proofs.Does.{valid_shown}
use Rattle.bcast_core.proofs.Settle.{settle_same}
use Rattle.bcast_core.proofs.Offers.{offer_accepted}

module _ {T : Type 0} where
  -- a view in which these sends wait
  abbrev pub with_sends : View T → Listeners ℕ → View T
  with_sends v sends = record v { control = record v.control { waiting_sends = sends } }

  module _ {is_clone : T → T → Type 0} {v w : View T} {c : Call T} {r : Reply T} (a : Answers is_clone v c r w) where
    pub valid : IsValidView v
    valid = valid_shown a.shown

    pub valid_after : IsValidView w
    valid_after = valid_shown (shown_after a)

    -- what holds after a call's effect, whatever sends are told, holds after the call
    pub after : (P : View T → Type 0) → ((sends : Listeners ℕ) → P (with_sends (settle v (effect v c r)) sends)) → P w
    after P here =
        let mid : View T = settle v (effect v c r) in
        let waiting : Listeners ℕ = mid.control.waiting_sends in
        subst P (sym (steps a).next) (told_is P mid (here (tell 1 waiting)) (here waiting))

    -- a call without an effect changes nothing
    pub unchanged : effect v c r ≡ sets v.control → w ≡ v
    unchanged is = (steps a).next ∙ ap tell_if_ready (ap (settle v) is ∙ settle_same v valid) ∙ told_valid v valid

pub some_of : (o : Option ℕ) → IsSome o → (n : ℕ) × (o ≡ Some n)
some_of (Some n) is = (n, refl)
some_of None is = cc

-- the cursors after one of them moved
module _ (m : Cursors) (key cursor other : ℕ) where
  pub some_insert : IsSome (get m other) → IsSome (get (insert m key cursor) other)
  some_insert is = subst IsSome (sym (get-insert nat_cmp_total m key cursor other)) (elim (eq_by_cmp nat_cmp other key) as (λ b. IsSome (cond b (Some cursor) (get m other))) [ true ↦ refl | false ↦ is ])

  -- a cursor is at least `low`, if it was before and the new one is
  pub high_insert : (low at : ℕ) → low ≤ cursor → ((c : ℕ) → get m other ≡ Some c → low ≤ c) → get (insert m key cursor) other ≡ Some at → low ≤ at
  high_insert low at here there e = grind (arith, common_steps, get-insert nat_cmp_total m key cursor other, here, there, e)

module _ {T : Type 0} where
  -- if a message is accepted, what is handed back is `handed_back`
  kept_is : (v : View T) (msg : T) (kept : Option T) → Ok kept ≡ try_broadcast_reply v msg → kept ≡ handed_back v
  kept_is v msg kept e = try_is (λ answer. Ok kept ≡ answer → kept ≡ handed_back v) v msg (λ error _ e. cc) (λ _ e. cc) e

  -- if a message is accepted without overflow, there is a receiver and there is room
  room_of : (closed none full over : Bool) (x y z : TrySendError T) (back : Option T) → over ≡ false → is_ok (cond closed (Err x) (cond none (Err y) (cond (full && not over) (Err z) (Ok back)))) ≡ true → (none ≡ false) × (full ≡ false)
  room_of false false true true x y z back plain e = absurd (true≢false plain)
  room_of false false false over x y z back plain e = (refl, refl)
  room_of closed none full over x y z back plain e = absurd (true≢false (sym e))

  module _ {is_clone : T → T → Type 0} {v w : View T} {msg : T} where
    pub replied : {result : Result (Option T) (TrySendError T)} → Answers is_clone v (call.TryBroadcast msg) (reply.TryBroadcast result) w → result ≡ try_broadcast_reply v msg
    replied a = let e = a.legal in cc

    none_refused : {back : Option T} → Answers is_clone v (call.TryBroadcast msg) (reply.TryBroadcast (Ok back)) w → is_ok (try_broadcast_reply v msg) ≡ true
    none_refused a = ap is_ok (sym (replied a))

    -- a message that is refused changes nothing
    pub refused : {error : TrySendError T} → Answers is_clone v (call.TryBroadcast msg) (reply.TryBroadcast (Err error)) w → w ≡ v
    refused a = unchanged a (ap (λ b. cond b (accept v msg) (sets v.control)) (ap is_ok (sym (replied a))))

    -- what holds after a message is accepted
    pub accepted : {back : Option T} → Answers is_clone v (call.TryBroadcast msg) (reply.TryBroadcast (Ok back)) w → (P : View T → Type 0) → ((sends : Listeners ℕ) → P (with_sends (settle v (accept v msg)) sends)) → P w
    accepted a P here = after a P (λ sends. subst (λ b. P (with_sends (settle v (cond b (accept v msg) (sets v.control))) sends)) (sym (none_refused a)) (here sends))

    -- without overflow the message comes last, and nothing is dropped
    pub put_last : {back : Option T} → Answers is_clone v (call.TryBroadcast msg) (reply.TryBroadcast (Ok back)) w → v.control.overflow ≡ false → (P : View T → Type 0) → ((sends : Listeners ℕ) → P (with_sends (with_message v msg) sends)) → P w
    put_last a plain P here =
        let room = room_of v.control.closed (has_no_receiver v.control) (is_full v) v.control.overflow _ _ _ _ plain (none_refused a) in
        after a P (λ sends. subst (λ u. P (with_sends u sends)) (sym (offer_accepted v msg (valid a) (none_refused a) room.0 room.1)) (here sends))

    pub sent_last : {back : Option T} → Answers is_clone v (call.TryBroadcast msg) (reply.TryBroadcast (Ok back)) w → v.control.overflow ≡ false → (w.queue ≡ v.queue ++ msg ∷ []) × (w.end ≡ v.end + 1)
    sent_last a plain = put_last a plain (λ u. (u.queue ≡ v.queue ++ msg ∷ []) × (u.end ≡ v.end + 1)) (λ _. (refl, refl))

    -- and no message is handed back
    pub sent_answers : {back : Option T} → Answers is_clone v (call.TryBroadcast msg) (reply.TryBroadcast (Ok back)) w → v.control.overflow ≡ false → Answers is_clone v (call.TryBroadcast msg) (reply.TryBroadcast (Ok None)) w
    sent_answers {back = back} a plain =
        let room = room_of v.control.closed (has_no_receiver v.control) (is_full v) v.control.overflow _ _ _ _ plain (none_refused a) in
        search (rules, kept_is v msg back (replied a), room.1, a)
