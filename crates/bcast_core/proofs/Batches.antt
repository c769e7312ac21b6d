-- Receives in a row: what they give, and where they lead.
use Rattle.std.proofs.Common.{◌≡◌, inl, inr, ℕ, suc, ◌+◌, ◌-◌, ◌≤◌, max, List, [], ◌∷◌, length, slice_get, Some, Ok, refl, sym, ap, ◌∙◌, subst, arith, IsSomeAnd}
use Rattle.std.specs.Option.{option_map_or}
use Rattle.std.proofs.lemmas.Grind.{common_steps}
use Rattle.std.proofs.lemmas.Option.{same_Some}
use Rattle.bcast_model.specs.declared.run.Call.TheVariants as call
use Rattle.bcast_model.specs.declared.run.Reply.TheVariants as reply
use Rattle.bcast_model.specs.Words.{Answers, IsReceivedBy, IsShown, View, cursor_of, kept_at, sets, settle, tell_if_ready, try_recv_reply, unread}
use Rattle.bcast_model.proofs.Answers.{shown_after}
use Rattle.bcast_model.proofs.DeliveryMaps.{inserted, inserted_other}
use Rattle.bcast_store.specs.Stored.{AreHandedOut}
use Rattle.bcast_store.proofs.Least.{insert_there}
use Rattle.bcast_store.proofs.Owing.{found}
use Rattle.bcast_core.specs.Batch.{ReceivesEach, ReceivesInto}
use Rattle.bcast_core.specs.Parts.{IsHandedOut}
use Rattle.bcast_core.proofs.Moves.{moved, after, after_twice, told_is, front_reached, kept_moved}
use Rattle.bcast_core.proofs.Receives.{receive_one}
use Rattle.bcast_core.proofs.Settle.{settle_same}
use Rattle.bcast_core.proofs.Tail.{ends, told_valid, valid_shown}

-- the receiver `key` reads next the message of this number, and missed none
pub record StandsAt {T : Type 0} (v : View T) (key cursor : ℕ) : Type 0 where
  pub there : cursor_of v.control key ≡ Some cursor
  pub reached : v.front ≤ cursor

module _ {T : Type 0} where
  -- a message that is there is what `try_recv` finds
  finds : (v : View T) (cursor : ℕ) (msg : T) → v.front ≤ cursor → kept_at v cursor ≡ Some msg → try_recv_reply v (Some cursor) ≡ Ok msg
  finds v cursor msg reached kept = grind (arith, common_steps)

  stands_moved : (v : View T) (key to : ℕ) → v.front ≤ to → StandsAt (after v key to) key to
  stands_moved v key to reached =
      let there = inserted v.control.cursors key to in
      let low = front_reached v key to reached in
      told_is (λ w. StandsAt w key to) (moved v key to) (record { there = there; reached = low }) (record { there = there; reached = low })

module _ {T : Type 0} (is_clone : T → T → Type 0) where
  -- ---- one message
  legal_given : (v : View T) (key cursor : ℕ) (given : T) → v.front ≤ cursor → IsHandedOut is_clone v key cursor given → IsReceivedBy is_clone v key (Some cursor) reply.TryRecv (reply.TryRecv (Ok (Ok given)))
  legal_given v key cursor given reached (inl kept) = inl (ap (λ a. reply.TryRecv (Ok a)) (sym (finds v cursor given reached kept)))
  legal_given v key cursor given reached (inr owed) =
      let msg = found (kept_at v cursor) (λ msg. is_clone msg given) owed.1 in
      inr (owed.0, inl (msg.0, given, finds v cursor msg.0 reached msg.1, msg.2, refl))

  -- ---- the messages behind it
  handed_moved : (v : View T) (key to number : ℕ) (given : T) → v.front ≤ to → to ≤ number → IsHandedOut is_clone v key number given → IsHandedOut is_clone (moved v key to) key number given
  handed_moved v key to number given reached from (inl kept) = inl (kept_moved v key to number given reached from kept)
  handed_moved v key to number given reached from (inr owed) =
      let o = owed.0 in
      let here : number ≡ o.number = same_Some number o.number o.at in
      let low = front_reached v key to reached in
      let msg = found (kept_at v number) (λ msg. is_clone msg given) owed.1 in
      inr (
        record {
          number = number;
          at = refl;
          kept = (omega (arith, low, from), omega (arith, here, o.kept.1));
          other = o.other;
          differs = o.differs;
          behind = o.behind;
          owes = (inserted_other v.control.cursors key to o.other o.differs ∙ o.owes.0, omega (arith, here, o.owes.1));
        },
        rw (kept_moved v key to number msg.0 reached from msg.1) msg.2,
      )

  -- ---- all of them
  -- what a receiver is given, one after the other, is so many receives
  each_given : (v : View T) (key cursor : ℕ) (given : List T) → IsShown v → StandsAt v key cursor → cursor + length given ≤ v.end → ((i : ℕ) (msg : T) → slice_get given i ≡ Some msg → IsHandedOut is_clone v key (cursor + i) msg)
      → ReceivesEach (Answers is_clone) key v given (after v key (cursor + length given))
  each_given v key cursor [] shown at within each =
      let none : cursor + 0 ≡ cursor = omega arith in
      ap (after v key) none
      ∙ ap (λ m. tell_if_ready (settle v (sets (record v.control { cursors = m })))) (insert_there v.control.cursors key cursor at.there)
      ∙ ap tell_if_ready (settle_same v (valid_shown shown)) ∙ told_valid v (valid_shown shown)
  each_given v key cursor (msg ∷ given) shown at within each =
      let none : cursor + 0 ≡ cursor = omega arith in
      let here = subst (λ n. IsHandedOut is_clone v key n msg) none (each 0 msg refl) in
      let first : Answers is_clone v (call.TryRecv key) (reply.TryRecv (Ok (Ok msg))) (after v key (cursor + 1)) = ends refl shown tt (record {
        legal = subst (λ o. IsReceivedBy is_clone v key o reply.TryRecv (reply.TryRecv (Ok (Ok msg)))) (sym at.there) (legal_given v key cursor msg at.reached here);
        effect = ap (λ c. settle v (sets c)) (sym (receive_one v key (cursor_of v.control key) cursor at.there at.reached (omega (arith, within))));
      }) refl in
      let mid = after v key (cursor + 1) in
      let reached : v.front ≤ cursor + 1 = omega (arith, at.reached) in
      let end : mid.end ≡ v.end = told_is (λ w. w.end ≡ v.end) (moved v key (cursor + 1)) (omega arith) (omega arith) in
      let behind : (i : ℕ) (next : T) → slice_get given i ≡ Some next → IsHandedOut is_clone mid key (cursor + 1 + i) next = λ i next is.
      (let number : cursor + suc i ≡ cursor + 1 + i = omega arith in
      let now = handed_moved v key (cursor + 1) (cursor + 1 + i) next reached (omega arith) (subst (λ n. IsHandedOut is_clone v key n next) number (each (suc i) next is)) in
      told_is (λ w. IsHandedOut is_clone w key (cursor + 1 + i) next) (moved v key (cursor + 1)) now now) in
      let rest = each_given mid key (cursor + 1) given (shown_after first) (stands_moved v key (cursor + 1) reached) (omega (arith, within, end)) behind in
      let to : cursor + 1 + length given ≡ cursor + length (msg ∷ given) = omega arith in
      let last = after_twice v key (cursor + 1) (cursor + 1 + length given) (valid_shown shown).fits (omega arith) ∙ ap (after v key) to in
      (mid, first, subst (ReceivesEach (Answers is_clone) key mid given) last rest)

  each_shown : (key : ℕ) (old new : View T) (given : List T) → IsShown old → ReceivesEach (Answers is_clone) key old given new → IsShown new
  each_shown key old new [] shown each = subst IsShown (sym each) shown
  each_shown key old new (msg ∷ given) shown each = each_shown key each.0 new given (shown_after each.1) each.2

module _ {T : Type 0} {is_clone : T → T → Type 0} where
  pub into_shown : {key n : ℕ} {old new : View T} {before after : List T} → IsShown old → ReceivesInto (Answers is_clone) key old before n after new → IsShown new
  into_shown {key = key} {old = old} {new = new} shown r = each_shown is_clone key old new r.given shown r.each

  pub into_given : {was v new : View T} {key cursor n : ℕ} {before put : List T} → was ≡ v → IsShown was → StandsAt was key cursor → cursor + n ≤ was.end → AreHandedOut (IsHandedOut is_clone was key) cursor before n put → new ≡ after was key (cursor + n)
      → ReceivesInto (Answers is_clone) key v before n put new
  into_given {was = was} {new = new} {key = key} {cursor = cursor} {n = n} {before = before} {put = put} same shown at within handed new_is =
      let each = each_given is_clone was key cursor handed.given shown at (omega (arith, within, handed.counted)) handed.each in
      subst (λ (w : View T). ReceivesInto (Answers is_clone) key w before n put new) same (record {
        given = handed.given;
        counted = handed.counted;
        put = handed.put;
        each = subst (ReceivesEach (Answers is_clone) key was handed.given) (ap (λ k. after was key (cursor + k)) handed.counted ∙ sym new_is) each;
      })

module _ {T : Type 0} {was : View T} {key cursor : ℕ} (at : StandsAt was key cursor) where
  -- how much it has still to read
  pub unread_is : {v : View T} → was ≡ v → unread v key ≡ was.end - cursor
  unread_is same =
      ap (λ (w : View T). unread w key) (sym same)
      ∙ ap (λ o. option_map_or (λ c. was.end - max c was.front) o 0) at.there
      ∙ (let reached = at.reached in omega (arith, reached))

  -- a message that it wasn't given is its next one
  pub next_refused : {new : View T} (P : T → Type 0) (n : ℕ) → IsSomeAnd (kept_at was (cursor + n)) P → new ≡ after was key (cursor + n) → IsSomeAnd (cursor_of new.control key) (λ c. IsSomeAnd (kept_at new c) P)
  next_refused P n refused new_is =
      let to = cursor + n in
      let reached : was.front ≤ to = (let r = at.reached in omega (arith, r)) in
      let msg = found (kept_at was to) P refused in
      let kept = kept_moved was key to to msg.0 reached (omega arith) msg.1 in
      let now = told_is (λ w. kept_at w to ≡ Some msg.0) (moved was key to) kept kept in
      let stands = stands_moved was key to reached in
      rw (new_is, stands.there, now) msg.2
