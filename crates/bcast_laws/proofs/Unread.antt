-- How much a receiver has still to read, by what `try_recv` returns; and that one which missed
-- messages finds a message at its next try.
use Rattle.std.proofs.Common.{◌≡◌, inl, ℕ, zero, suc, ◌+◌, ◌-◌, ◌<◌, ◌≤◌, Bool, true, false, cond, List, length, max, Option, Some, None, Ok, Err, nat_lt, refl, sym, ap, ◌∙◌, subst, arith, append-nil, IsOk, IsErr, slice_get, inr}
use Rattle.std.proofs.lemmas.Grind.{common_steps}
use Rattle.std.proofs.lemmas.Option.{slice_get_past}
use Rattle.std.specs.Option.{option_map_or}
use Rattle.std.specs.FinMap.{get}
use Rattle.std.proofs.lemmas.Bool.{cases_lt}
use Rattle.bcast_laws.specs.Unread.{after_try, GivesInARow, UnreadIsGiven}
use Rattle.bcast_model.specs.declared.error.TryRecvError.TheVariants as unread_error
use Rattle.bcast_model.specs.declared.run.Call.TheVariants as call
use Rattle.bcast_model.specs.declared.run.Reply.TheVariants as reply
use Rattle.bcast_model.specs.Words.{with_cursor, cursor_of, kept_at, receive, recv_reply}
use Rattle.bcast_model.specs.Words.{try_recv_reply, History, view_of, front_number, end_number}
use Rattle.bcast_model.specs.Words.{queue_of, NoClone, IsValid, unread, missed, View, next}
use Rattle.bcast_model.proofs.Answers.{next_valid, cursors-next}
use Rattle.bcast_model.proofs.Views.{valid_view, floor_under, front-le-cursor, lagging}
use Rattle.bcast_model.proofs.DeliveryMaps.{inserted}
use Rattle.bcast_model.proofs.DeliveryLists.{past_end}
use Rattle.bcast_model.proofs.Cases.{lagging_reply, passed_reply, lagging_receive, passed_receive}
use Rattle.bcast_model.proofs.DeliverySteps.{found_reached}

no_message : (T : Type 0) (closed : Bool) → IsErr (recv_reply {T = T} closed None)
no_message T true = refl
no_message T false = refl

finds : {T : Type 0} (closed : Bool) (items : List T) (index : ℕ) (o : Option T) → index < length items → slice_get items index ≡ o → IsOk (recv_reply closed o)
finds closed items index (Some msg) within is = refl
finds closed items index None within is = let past = past_end items index is in absurd (omega (arith, past, within))

module _ {T : Type 0} where
  -- it has missed none, and reads next the message of this number
  abbrev pub ReadsNext : History T → ℕ → ℕ → Type 0
  ReadsNext h key cursor = (cursor_of h.control key ≡ Some cursor) × (front_number h ≤ cursor)

  module _ (h : History T) (key : ℕ) (valid : IsValid h) where
    -- ---- after a `try_recv`
    pub valid_after : IsValid (after_try h key)
    valid_after = next_valid NoClone h (call.TryRecv key) (reply.TryRecv (Ok (try_recv_reply (view_of h) (cursor_of h.control key)))) tt valid (inl refl)

    pub same_end : end_number (after_try h key) ≡ end_number h
    same_end = ap (λ (msgs : List T). h.first + length msgs) (append-nil h.accepted)

    moved : (cursor to : ℕ) → cursor_of h.control key ≡ Some cursor → receive (view_of h) key (Some cursor) ≡ with_cursor h.control key to → front_number h ≤ to → ReadsNext (after_try h key) key to
    moved cursor to at is passed =
        let there : cursor_of (after_try h key).control key ≡ Some to =
        ap (λ m. get m key) (cursors-next h (call.TryRecv key) (reply.TryRecv (Ok (try_recv_reply (view_of h) (cursor_of h.control key)))) ∙ ap (λ o. (receive (view_of h) key o).cursors) at ∙ ap (λ c. c.cursors) is)
        ∙ inserted h.control.cursors key to in
        let under : front_number (after_try h key) ≤ max (max h.floor 0) to = front-le-cursor (after_try h key) key to there in
        let floor = floor_under h in
        (there, omega (arith, under, floor, passed))

    -- ---- a receiver that missed messages
    pub left_at_front : (cursor : ℕ) → cursor_of h.control key ≡ Some cursor → cursor < front_number h → ReadsNext (after_try h key) key (front_number h)
    left_at_front cursor at lags = moved cursor (front_number h) at (lagging_receive (view_of h) key cursor lags) (omega arith)

    -- ---- one that missed none
    takes : (cursor : ℕ) → cursor_of h.control key ≡ Some cursor → front_number h ≤ cursor → cursor < end_number h → ReadsNext (after_try h key) key (cursor + 1)
    takes cursor at passed below =
        let there : nat_lt cursor (end_number h) ≡ true = grind (arith, common_steps, below) in
        moved cursor (cursor + 1) at (passed_receive (view_of h) key cursor passed ∙ ap (λ b. cond b (with_cursor h.control key (cursor + 1)) h.control) there) (omega (arith, passed))

    pub gives : (cursor : ℕ) → cursor_of h.control key ≡ Some cursor → front_number h ≤ cursor → cursor < end_number h → IsOk (try_recv_reply (view_of h) (cursor_of h.control key))
    gives cursor at passed below =
        let size = (valid_view h valid).end in
        let within : cursor - front_number h < length (queue_of h) = omega (arith, size, passed, below) in
        subst IsOk (sym (ap (try_recv_reply (view_of h)) at ∙ passed_reply (view_of h) cursor passed)) (finds h.control.closed (queue_of h) (cursor - front_number h) (kept_at (view_of h) cursor) within refl)

    gives_none : (cursor : ℕ) → cursor_of h.control key ≡ Some cursor → front_number h ≤ cursor → end_number h ≤ cursor → IsErr (try_recv_reply (view_of h) (cursor_of h.control key))
    gives_none cursor at passed past =
        let size = (valid_view h valid).end in
        let none : kept_at (view_of h) cursor ≡ None = slice_get_past (queue_of h) (cursor - front_number h) (omega (arith, size, passed, past)) in
        subst IsErr (sym (ap (try_recv_reply (view_of h)) at ∙ passed_reply (view_of h) cursor passed ∙ ap (recv_reply h.control.closed) none)) (no_message T h.control.closed)

  in_a_row : (count : ℕ) (h : History T) (key cursor : ℕ) → IsValid h → ReadsNext h key cursor → end_number h - cursor ≡ count → GivesInARow h key count
  in_a_row zero h key cursor valid reads left = gives_none h key valid cursor reads.0 reads.1 (omega (arith, left))
  in_a_row (suc count) h key cursor valid reads left =
      let below : cursor < end_number h = omega (arith, left) in
      let same = same_end h key valid in (
        gives h key valid cursor reads.0 reads.1 below,
        in_a_row count (after_try h key) key (cursor + 1) (valid_after h key valid) (takes h key valid cursor reads.0 reads.1 below) (omega (arith, left, same)),
      )

  module _ (h : History T) (key : ℕ) (valid : IsValid h) where
    -- ---- by the receiver's cursor, if there is one
    lags_at : (o : Option ℕ) → 0 < option_map_or (λ number. front_number h - number) o 0 → (cursor : ℕ) × (o ≡ Some cursor) × (cursor < front_number h)
    lags_at None some = absurd (omega (arith, some))
    lags_at (Some cursor) some = (cursor, refl, omega (arith, some))

    given_at : (o : Option ℕ) → cursor_of h.control key ≡ o → option_map_or (λ number. front_number h - number) o 0 ≡ 0
        → GivesInARow h key (option_map_or (λ number. end_number h - max number (front_number h)) o 0)
    given_at None at none = subst (λ o. IsErr (try_recv_reply (view_of h) o)) (sym at) refl
    given_at (Some cursor) at none =
        let passed : front_number h ≤ cursor = omega (arith, none) in
        in_a_row (end_number h - max cursor (front_number h)) h key cursor valid (at, passed) (omega (arith, passed))

    module _ (some : 0 < missed (view_of h) key) where
      lag : (cursor : ℕ) × (cursor_of h.control key ≡ Some cursor) × (cursor < front_number h)
      lag = lags_at (cursor_of h.control key) some

      counts : try_recv_reply (view_of h) (cursor_of h.control key) ≡ Err (unread_error.Overflowed (missed (view_of h) key))
      counts = subst (λ o. try_recv_reply (view_of h) o ≡ Err (unread_error.Overflowed (option_map_or (λ number. front_number h - number) o 0))) (sym lag.1) (lagging_reply (view_of h) lag.0 lag.2)

      left : ReadsNext (after_try h key) key (front_number h)
      left = left_at_front h key valid lag.0 lag.1 lag.2

      misses_none : missed (view_of (after_try h key)) key ≡ 0
      misses_none =
          let under = left.1 in
          ap (λ o. option_map_or (λ number. front_number (after_try h key) - number) o 0) left.0 ∙ omega (arith, under)

      same_unread : unread (view_of (after_try h key)) key ≡ unread (view_of h) key
      same_unread =
          let under = left.1 in
          let low = lag.2 in
          let same = same_end h key valid in
          let count : end_number (after_try h key) - max (front_number h) (front_number (after_try h key)) ≡ end_number h - max lag.0 (front_number h) = omega (arith, under, low, same) in
          ap (λ o. option_map_or (λ number. end_number (after_try h key) - max number (front_number (after_try h key))) o 0) left.0 ∙ count
          ∙ sym (ap (λ o. option_map_or (λ number. end_number h - max number (front_number h)) o 0) lag.1)

  pub unread_given : UnreadIsGiven T
  unread_given = record {
    counted = λ h key valid some. counts h key valid some;
    then_none = λ h key valid some. misses_none h key valid some;
    then_unread = λ h key valid some. same_unread h key valid some;
    given = λ h key valid none. given_at h key valid (cursor_of h.control key) refl none;
  }

  -- the receiver lags by this many
  lags_by : (v : View T) (key n : ℕ) (o : Option ℕ) → cursor_of v.control key ≡ o → try_recv_reply v o ≡ Err (unread_error.Overflowed n)
      → (cursor : ℕ) × (cursor_of v.control key ≡ Some cursor) × (cursor < v.front) × (v.front - cursor ≡ n)
  lags_by v key n None at e = absurd (found_reached true None n e)
  lags_by v key n (Some cursor) at e = elim (cases_lt cursor v.front) [
    | inl lags ↦ (cursor, at, lags, let same = sym (lagging_reply v cursor lags) ∙ e in cc)
    | inr passed ↦ absurd (found_reached v.control.closed (kept_at v cursor) n (sym (passed_reply v cursor passed) ∙ e))
  ]

  -- it was left at the front, and finds the message there
  pub missed_finds : (h : History T) (key n : ℕ) → IsValid h → try_recv_reply (view_of h) (cursor_of h.control key) ≡ Err (unread_error.Overflowed n)
      → let after = next h (call.TryRecv key) (reply.TryRecv (Ok (Err (unread_error.Overflowed n)))) in (1 ≤ n) × IsOk (try_recv_reply (view_of after) (cursor_of after.control key))
  missed_finds h key n valid e =
      let lags = lags_by (view_of h) key n (cursor_of h.control key) refl e in
      let reads = left_at_front h key valid lags.0 lags.1 lags.2 in
      let some = lagging (view_of h) (valid_view h valid) key lags.0 lags.1 lags.2 in
      let same = same_end h key valid in (
        omega (arith, lags.2, lags.3),
        subst (λ answer. let after = next h (call.TryRecv key) (reply.TryRecv (Ok answer)) in IsOk (try_recv_reply (view_of after) (cursor_of after.control key))) e
            (gives (after_try h key) key (valid_after h key valid) (front_number h) reads.0 reads.1 (omega (arith, some, same))),
      )
