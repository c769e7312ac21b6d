-- What an offered message does to the view.
use Rattle.std.proofs.Common.{◌≡◌, ℕ, ◌+◌, ◌-◌, ◌<◌, ◌≤◌, ◌==◌, true, false, cond, List, [], ◌∷◌, length, max, Option, Some, None, refl, sym, ap, ◌∙◌, arith, eqb-true, is_ok, IfSome, OnSome, IfNone}
use Rattle.std.proofs.lemmas.Grind.{common_steps}
use Rattle.std.specs.FinMap.{values}
use Rattle.bcast_store.specs.Stored.{Stored, end_of}
use Rattle.bcast_model.specs.Words.{Control, has_no_receiver, accepting, least, View, is_full, IsValidView}
use Rattle.bcast_model.specs.Words.{settle, with_message, with_messages, accept, try_broadcast_reply, sets}
use Rattle.bcast_model.specs.Words.{offer, try_broadcast_all_reply, accept_all, offer_all}
use Rattle.bcast_core.specs.Parts.{seen_of}
use Rattle.bcast_core.proofs.Settle.{settle_to, settle_same, least_raised, cursors-accepting}

pub not_zero : (n : ℕ) → (n == 0) ≡ false → 0 < n
not_zero n e = grind (arith, common_steps, e)

module _ {T : Type 0} where
  -- if there is a receiver, the end may rise and the front stays
  low_next : (v : View T) (more : ℕ) → IsValidView v → has_no_receiver v.control ≡ false → least (v.end + more) (values v.control.cursors) ≤ v.front
  low_next v more valid some = grind (arith, common_steps, least_raised)

  -- a message is accepted if there is room
  pub offer_accepted : (v : View T) (msg : T) → IsValidView v → is_ok (try_broadcast_reply v msg) ≡ true → has_no_receiver v.control ≡ false → is_full v ≡ false → settle v (offer v msg) ≡ with_message v msg
  offer_accepted v msg valid is some full =
      let low = low_next v 1 valid some in
      let front : max (max v.front (accept v msg).floor) (least (v.end + 1) (values (accepting v.control (v.end + 1)).cursors)) ≡ v.front = rw (full, cursors-accepting) (omega (arith, low)) in
      let none : v.front - v.front ≡ 0 = omega arith in
      ap (λ b. settle v (cond b (accept v msg) (sets v.control))) is ∙ settle_to v (accept v msg) (with_message v msg) front (rw none refl) refl refl

  -- a whole list is accepted if there is room
  pub offer_all_accepted : (v : View T) (msgs : List T) → IsValidView v → is_ok (try_broadcast_all_reply v msgs) ≡ true → has_no_receiver v.control ≡ false → 0 < length msgs → settle v (offer_all v msgs) ≡ with_messages v msgs
  offer_all_accepted v [] valid is some n = absurd (omega arith)
  offer_all_accepted v (msg ∷ rest) valid is some n =
      let low = low_next v (length (msg ∷ rest)) valid some in
      let front : max (max v.front 0) (least (v.end + length (msg ∷ rest)) (values (accepting v.control (v.end + length (msg ∷ rest))).cursors)) ≡ v.front = rw cursors-accepting (omega (arith, low)) in
      let none : v.front - v.front ≡ 0 = omega arith in
      ap (λ b. settle v (cond b (accept_all v (msg ∷ rest)) (sets v.control))) is ∙ settle_to v (accept_all v (msg ∷ rest)) (with_messages v (msg ∷ rest)) front (rw none refl) refl refl

  -- without a message nothing changes
  pub offer_all_nothing : (v : View T) (msgs : List T) → IsValidView v → v.control.closed ≡ false → has_no_receiver v.control ≡ false → (length msgs == 0) ≡ true → settle v (offer_all v msgs) ≡ v
  offer_all_nothing v [] valid opened some n = grind (arith, common_steps, settle_same)
  offer_all_nothing v (msg ∷ rest) valid opened some n = let none = eqb-true (length (msg ∷ rest)) 0 n in absurd (omega (arith, none))

  -- a list that is refused changes nothing
  pub offer_all_refused : (v : View T) (msgs : List T) → IsValidView v → is_ok (try_broadcast_all_reply v msgs) ≡ false → settle v (offer_all v msgs) ≡ v
  offer_all_refused v msgs valid is = ap (λ b. settle v (cond b (accept_all v msgs) (sets v.control))) is ∙ settle_same v valid

  -- the oldest message, which was taken out of the store, makes room for it
  pub offer_dropping : (s now : Stored T) (control : Stored T → Control) (v : View T) (msg : T) (taken : Option T)
      → ((front : ℕ) (queue : List T) → control (record s { front = front; queue = queue }) ≡ control s) → seen_of s (control s) ≡ v → IsValidView v → is_ok (try_broadcast_reply v msg) ≡ true → has_no_receiver v.control ≡ false → is_full v ≡ true
      → IfSome taken (λ oldest. s.queue ≡ oldest ∷ now.queue) → OnSome taken (now ≡ record s { front = s.front + 1; queue = now.queue }) → IfNone taken (s.queue ≡ []) → settle v (offer v msg) ≡ with_message (seen_of now (control now)) msg
  offer_dropping s now control v msg None same seen valid is some full first rest none =
      let kept : 0 < length v.queue = grind (arith, common_steps, full, valid.control.capacity) in
      let empty = ap length (sym none ∙ ap (λ (x : View T). x.queue) seen) in
      absurd (omega (arith, kept, empty))
  offer_dropping s now control v msg (Some oldest) same seen valid is some full first rest none =
      let low = low_next v 1 valid some in
      let front : max (max v.front (accept v msg).floor) (least (v.end + 1) (values (accepting v.control (v.end + 1)).cursors)) ≡ v.front + 1 = rw (full, cursors-accepting) (omega (arith, low)) in
      let one : (v.front + 1) - v.front ≡ 1 = omega arith in
      let queue = sym (ap (λ (x : View T). x.queue) seen) ∙ first in
      let moved : Stored T = record s { front = s.front + 1; queue = now.queue } in
      let end : end_of moved ≡ end_of s = let more = ap length first in omega (arith, more) in
      ap (λ b. settle v (cond b (accept v msg) (sets v.control))) is
      ∙ settle_to v (accept v msg) (with_message (record v { front = v.front + 1; queue = now.queue }) msg) front (rw (one, queue) refl) refl refl
      ∙ ap (λ (x : View T). with_message x msg) (sym (ap (λ x. seen_of x (control x)) rest
      ∙ (λ i. record { front = moved.front; queue = moved.queue; end = end i; control = same moved.front moved.queue i }) ∙ ap (λ (x : View T). record x { front = x.front + 1; queue = now.queue }) seen))

-- what sends of lists that change nothing are proved by
pub ruleset lists = (common_steps, offer_all_nothing, offer_all_refused)
