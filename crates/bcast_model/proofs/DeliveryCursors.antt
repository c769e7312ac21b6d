-- What each call does to the receivers' cursors, and that it opens no channel.
use Rattle.std.proofs.Common.{Ok, Result, ◌≡◌, ◌⊎◌, inl, inr, ℕ, ◌+◌, ◌-◌, ◌≤◌, ◌==◌, max, Bool, true, cond, Option, Some, None, refl, sym, ap, ◌∙◌, arith, Err}
use Rattle.std.proofs.lemmas.Grind.{common_steps}
use Rattle.std.proofs.lemmas.Option.{none-some, same_Some}
use Rattle.std.specs.FinMap.{get, insert}
use Rattle.std.specs.Option.{option_map_or}
use Rattle.bcast_model.specs.Words.{IsMadeFrom, HandleError, Call, Reply, Pair, stream_of, Cursors}
use Rattle.bcast_model.specs.Words.{future_of, Control, cursor_of, View, Effect, sets, receive}
use Rattle.bcast_model.specs.Words.{skipped_to, receive_poll, is_empty_reply, try_recv_reply, Legal}
use Rattle.bcast_model.specs.Words.{resize, set_unless_refused, effect, is_out_of_memory, chosen_id}
use Rattle.bcast_model.specs.Words.{has_next, drop_receiver, deactivate, without_receiver}
use Rattle.bcast_model.specs.Words.{clone_receiver, receives_for, HasPositiveCapacity, pair_waits}
use Rattle.bcast_model.specs.Words.{pair_answered, History, view_of, next, with_cursor, NoClone}
use Rattle.bcast_model.specs.declared.run.Reply.TheVariants as reply
use Rattle.bcast_model.specs.declared.run.Call.TheVariants as call
use Rattle.bcast_model.proofs.Cases.{test_is, receive_is, made_is, next_is, Lasts, Stays, kept, stays-close, stays-deserted}
use Rattle.bcast_model.proofs.SendAll.{stays-placed, stays-offer, stays-offer_all, stays-poll_send, stays-new_sender, stays-clone_inactive, stays-drop_sender, stays-drop_inactive}
use Rattle.bcast_model.proofs.DeliveryMaps.{CursorsChange, stay, rise, make, leave}

pub same_key : (key : ℕ) → (key == key) ≡ true
same_key key = grind (arith, common_steps)

module _ {T : Type 0} where
  -- the receiver of this key leaves by the call
  abbrev pub TakesOut : Call T → ℕ → Type 0
  TakesOut c key = (c ≡ call.Deactivate key) ⊎ (c ≡ call.DropReceiver key)

  -- the change of the cursors that a call makes
  abbrev pub Moves : (T → T → Type 0) → View T → Call T → Reply T → Cursors → Type 0
  Moves is_clone v c r new = CursorsChange v.front v.end (λ key. receives_for key c) (TakesOut c) (Legal is_clone v c r) v.control.cursors new

  -- what a call does to the control, whatever its reply
  pub record Changes (is_clone : T → T → Type 0) (v : View T) (c : Call T) (r : Reply T) (new : Control) : Type 0 where
    pub cursors : Moves is_clone v c r new.cursors
    pub lasts : Lasts (HasPositiveCapacity c) v.control new

  module _ (is_clone : T → T → Type 0) (v : View T) (c : Call T) (r : Reply T) where
    same : {new : Control} → Stays v.control new → Changes is_clone v c r new
    same s = record { cursors = stay s.0; lasts = (λ _ some. s.2.0 tt some, s.2.1) }

    same_kept : Changes is_clone v c r v.control
    same_kept = same (kept v.control)

    -- only the cursors and the count of inactive receivers change
    moved : (cursors : Cursors) (inactive : ℕ) → Moves is_clone v c r cursors → Changes is_clone v c r (record v.control { cursors = cursors; inactive = inactive })
    moved cursors inactive moves = record { cursors = moves; lasts = (λ _ some. some, λ is. is) }

    unless : (e : Effect T) → Changes is_clone v c r e.control → Changes is_clone v c r (cond (is_out_of_memory r) (sets v.control) e).control
    unless e change = test_is (λ (e : Effect T). Changes is_clone v c r e.control) (is_out_of_memory r) (sets v.control) e (λ _. same_kept) (λ _. change)

    -- ---- receives
    rise_from : (key from at : ℕ) → receives_for key c ≡ true → get v.control.cursors key ≡ Some from → from ≤ at → Changes is_clone v c r (receive v key (Some at))
    rise_from key from at reads is le = receive_is v (Changes is_clone v c r) key at
        (λ lags. moved (insert v.control.cursors key v.front) v.control.inactive (rise key from v.front reads is (omega (arith, lags, le)) (inl (omega arith)) refl))
        (λ _ below. moved (insert v.control.cursors key (at + 1)) v.control.inactive (rise key from (at + 1) reads is (omega arith) (inr (omega (arith, below))) refl)) (λ _ _. same_kept)

    -- a receive at the receiver's cursor, and one that continues at the front
    rise_at : (key : ℕ) (cursor : Option ℕ) → receives_for key c ≡ true → get v.control.cursors key ≡ cursor → Changes is_clone v c r (receive v key cursor)
    rise_at key None reads is = same_kept
    rise_at key (Some cursor) reads is = rise_from key cursor cursor reads is (omega arith)

    rise_skipping : (key : ℕ) (cursor : Option ℕ) → receives_for key c ≡ true → get v.control.cursors key ≡ cursor → Changes is_clone v c r (receive v key (skipped_to v.front cursor))
    rise_skipping key None reads is = same_kept
    rise_skipping key (Some cursor) reads is = rise_from key cursor (max cursor v.front) reads is (omega arith)

    polled : (pair : Pair) (cursor : Option ℕ) → Changes is_clone v c r (receive v pair.0 cursor) → Changes is_clone v c r (set_unless_refused v r (receive_poll v pair cursor)).control
    polled pair cursor change =
        let now : Control = receive v pair.0 cursor in
        unless (sets (receive_poll v pair cursor)) (test_is (Changes is_clone v c r) (is_empty_reply (try_recv_reply v cursor)) (pair_waits now pair) (pair_answered now pair)
        (λ _. record { cursors = change.cursors; lasts = change.lasts }) (λ _. record { cursors = change.cursors; lasts = change.lasts }))

    -- ---- receivers that leave, and new ones
    left : (key : ℕ) (cursor : Option ℕ) → TakesOut c key → Changes is_clone v c r (drop_receiver v.control key cursor)
    left key None leaves = same_kept
    left key (Some cursor) leaves = let s = stays-deserted (without_receiver v.control key) in record { cursors = leave key leaves s.0; lasts = (λ _ some. s.2.0 tt some, s.2.1) }

    deactivated : (key : ℕ) (cursor : Option ℕ) → TakesOut c key → Changes is_clone v c r (deactivate v.control key cursor)
    deactivated key None leaves = same_kept
    deactivated key (Some cursor) leaves = test_is (Changes is_clone v c r) (has_next v.control.inactive) (record (without_receiver v.control key) { inactive = v.control.inactive + 1 }) v.control
        (λ _. record { cursors = leave key leaves refl; lasts = (λ _ some. some, λ is. is) }) (λ _. same_kept)

    -- a key that a legal reply gives is free
    free_key : (there : Bool) (spelt : Result ℕ HandleError → Reply T) → ((key : ℕ) → chosen_id (spelt (Ok key)) ≡ Some key) → ((error : HandleError) → chosen_id (spelt (Err error)) ≡ None) → (key : ℕ) → chosen_id r ≡ Some key
        → IsMadeFrom there v.control.cursors spelt r → get v.control.cursors key ≡ None
    free_key there spelt some none key is legal = made_is (λ r. chosen_id r ≡ Some key → get v.control.cursors key ≡ None) there v.control.cursors spelt r legal
        (λ made free e. ap (get v.control.cursors) (same_Some key made (sym e ∙ some made)) ∙ free) (λ error e. absurd (none-some key (sym (none error) ∙ e))) is

    -- a new receiver at the end, with this count of inactive ones
    new : (inactive : ℕ) (id : Option ℕ) → ((key : ℕ) → id ≡ Some key → Legal is_clone v c r → get v.control.cursors key ≡ None)
        → Changes is_clone v c r (option_map_or (λ key. record (with_cursor v.control key v.end) { inactive = inactive }) id v.control)
    new inactive None free = same_kept
    new inactive (Some key) free = moved (insert v.control.cursors key v.end) inactive (make key v.end (free key refl) (inl refl) refl)

    cloned : (other : ℕ) (cursor id : Option ℕ) → get v.control.cursors other ≡ cursor → ((key : ℕ) → id ≡ Some key → Legal is_clone v c r → get v.control.cursors key ≡ None) → Changes is_clone v c r (clone_receiver v.control cursor id)
    cloned other (Some cursor) (Some key) is free = moved (insert v.control.cursors key cursor) v.control.inactive (make key cursor (free key refl) (inr (other, is)) refl)
    cloned other cursor id is free = same_kept

  -- ---- each call
  pub changes : (is_clone : T → T → Type 0) (v : View T) (c : Call T) (r : Reply T) → Changes is_clone v c r (effect v c r).control
  changes is_clone v (call.TryBroadcast msg) r = same is_clone v _ r (stays-offer v msg)
  changes is_clone v (call.TryBroadcastAll msgs) r = same is_clone v _ r (stays-offer_all v msgs)
  changes is_clone v (call.AttemptSend msg) r = same is_clone v _ r (stays-offer v msg)
  changes is_clone v call.BeginSend r = same is_clone v _ r (stays-placed v.control (chosen_id r))
  changes is_clone v (call.PollSend place msg) r = same is_clone v _ r (stays-poll_send v place msg)
  changes is_clone v (call.TryRecv key) r = unless is_clone v _ r (sets (receive v key (cursor_of v.control key))) (rise_at is_clone v (call.TryRecv key) r key (cursor_of v.control key) (same_key key) refl)
  changes is_clone v (call.PollFuture key) r = polled is_clone v _ r (future_of key) (cursor_of v.control key) (rise_at is_clone v (call.PollFuture key) r key (cursor_of v.control key) (same_key key) refl)
  changes is_clone v (call.PollRecv key) r = polled is_clone v _ r (stream_of key) (cursor_of v.control key) (rise_at is_clone v (call.PollRecv key) r key (cursor_of v.control key) (same_key key) refl)
  changes is_clone v (call.PollNext key) r = polled is_clone v _ r (stream_of key) (skipped_to v.front (cursor_of v.control key)) (rise_skipping is_clone v (call.PollNext key) r key (cursor_of v.control key) (same_key key) refl)
  changes is_clone v call.Close r = same is_clone v _ r (stays-close v.control)
  changes is_clone v (call.SetCapacity n) r = unless is_clone v _ r (resize v n) (record { cursors = stay refl; lasts = (λ allowed _. allowed, λ is. is) })
  changes is_clone v call.NewSender r = same is_clone v _ r (stays-new_sender v.control)
  changes is_clone v call.CloneInactive r = same is_clone v _ r (stays-clone_inactive v.control)
  changes is_clone v (call.Deactivate key) r = deactivated is_clone v _ r key (cursor_of v.control key) (inl refl)
  changes is_clone v call.NewReceiver r = new is_clone v _ r v.control.inactive (chosen_id r) (λ key is legal. free_key is_clone v call.NewReceiver r true reply.NewReceiver (λ _. refl) (λ _. refl) key is (inr (refl, legal)))
  changes is_clone v call.Activate r = new is_clone v _ r (v.control.inactive - 1) (chosen_id r) (λ key is legal. free_key is_clone v call.Activate r _ reply.Activate (λ _. refl) (λ _. refl) key is legal)
  changes is_clone v call.ActivateCloned r = new is_clone v _ r v.control.inactive (chosen_id r) (λ key is legal. free_key is_clone v call.ActivateCloned r _ reply.ActivateCloned (λ _. refl) (λ _. refl) key is legal)
  changes is_clone v (call.CloneReceiver other) r = cloned is_clone v _ r other (cursor_of v.control other) (chosen_id r) refl (λ key is legal. free_key is_clone v (call.CloneReceiver other) r _ reply.CloneReceiver (λ _. refl) (λ _. refl) key is legal)
  changes is_clone v call.DropSender r = same is_clone v _ r (stays-drop_sender v.control)
  changes is_clone v call.DropInactive r = same is_clone v _ r (stays-drop_inactive v.control)
  changes is_clone v (call.DropReceiver key) r = left is_clone v _ r key (cursor_of v.control key) (inr refl)
  changes is_clone v c r = record { cursors = stay refl; lasts = (λ _ some. some, λ is. is) }

  -- ---- what lasts
  next_lasts : (h : History T) (c : Call T) (r : Reply T) → Lasts (HasPositiveCapacity c) h.control (next h c r).control
  next_lasts h c r = let now = (changes NoClone (view_of h) c r).lasts in next_is (Lasts (HasPositiveCapacity c) h.control) h c r now now

  pub capacity-next : (h : History T) (c : Call T) (r : Reply T) → HasPositiveCapacity c → 1 ≤ h.control.capacity → 1 ≤ (next h c r).control.capacity
  capacity-next h c r = (next_lasts h c r).0

  pub closed-next : (h : History T) (c : Call T) (r : Reply T) → h.control.closed ≡ true → (next h c r).control.closed ≡ true
  closed-next h c r = (next_lasts h c r).1
