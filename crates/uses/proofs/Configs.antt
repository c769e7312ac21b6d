-- A channel of capacity 1 in overflow mode: what its calls leave.
use Rattle.std.proofs.Common.{◌≡◌, ℕ, ◌+◌, ◌-◌, ◌≤◌, true, false, [], ◌∷◌, length, max, Option, Some, None, Result, Ok, Err, IfOk, OnOk, refl, sym, ap, ◌∙◌, subst, arith}
use Rattle.std.proofs.lemmas.List.{drop_at, nil_from_length}
use Rattle.std.proofs.lemmas.Grind.{common_steps}
use Rattle.std.proofs.lemmas.Option.{none-some, same_Some}
use Rattle.std.specs.FinMap.{get, values}
use Rattle.futures.specs.declared.task.Poll.{Poll}
use Rattle.bcast_model.specs.declared.run.Call.TheVariants as call
use Rattle.bcast_model.specs.declared.run.Reply.TheVariants as reply
use Rattle.bcast_model.specs.declared.error.HandleError.{HandleError}
use Rattle.bcast_model.specs.declared.error.TrySendError.{TrySendError}
use Rattle.bcast_model.specs.Words.{least, sets, listens, accept, settle, View, is_full, Answers}
use Rattle.bcast_model.specs.Words.{stream_of, Control, cursor_of, accepting, receive, skipped_to}
use Rattle.bcast_model.specs.Words.{with_cursor, pair_waits, IsValidView, pair_answered}
use Rattle.bcast_model.specs.Words.{is_empty_reply, try_recv_reply}
use Rattle.bcast_model.proofs.Cases.{receive_is, test_is}
use Rattle.bcast_model.proofs.Least.{least-le-cursor, len_insert}
use Rattle.bcast_model.proofs.DeliveryMaps.{inserted_other}
use Rattle.bcast_core.proofs.Settle.{inserted, somebody, cursors-accepting}
use Rattle.uses.specs.Config.{IsConfig, IsUpToDate, KeepsOthers, set_answer}
use Rattle.uses.proofs.Called.{with_sends, valid, after, unchanged, accepted}

module _ {S : Type 0} where
  -- nothing is set, and this watcher, if it is there, has looked at the latest settings
  pub record Looked (v u : View S) (key : ℕ) : Type 0 where
    pub config : IsConfig u
    pub others : KeepsOthers v u key
    pub seen : IsUpToDate u key

  -- who waits and who is told makes no difference
  heard : (v u : View S) (key : ℕ) (c : Control) → c.cursors ≡ u.control.cursors → c.closed ≡ u.control.closed → c.capacity ≡ u.control.capacity → c.overflow ≡ u.control.overflow → Looked v u key → Looked v (record u { control = c }) key
  heard v u key c cursors closed capacity overflow s = grind (arith, common_steps, cursors, closed, capacity, overflow, s)

  module _ (v : View S) (key : ℕ) (config : IsConfig v) where
    abbrev Leaves : Control → Type 0
    Leaves c = Looked v (settle v (sets c)) key

    same_end : v.end + 0 ≡ v.end
    same_end = omega arith

    -- a watcher whose cursor is moved to the end
    seen_at : (number : ℕ) → number ≡ v.end → Leaves (with_cursor v.control key number)
    seen_at number at =
        grind (arith, common_steps, config, at, len_insert v.control.cursors key number, inserted_other v.control.cursors key number, inserted v.control.cursors key number)

    seen_same : IsUpToDate v key → Leaves v.control
    seen_same seen = grind (arith, common_steps, config, seen)

    -- a cursor that skips to the end is at the end
    pub at_end : IsValidView v → (cursor : ℕ) → cursor_of v.control key ≡ Some cursor → v.end ≤ max cursor v.front → cursor ≡ v.end
    at_end valid cursor e late = grind (arith, common_steps, valid.reach key cursor e, valid.end, late, valid.caught_up key cursor, nil_from_length v.queue, e)

    moved : IsValidView v → (o : Option ℕ) → cursor_of v.control key ≡ o → Leaves (receive v key (skipped_to v.front o))
    moved valid None at = seen_same (λ n e. absurd (none-some n (sym at ∙ e)))
    moved valid (Some n) at =
        receive_is v Leaves key (max n v.front)
        (λ lags. absurd (omega (arith, lags)))
        (λ _ high. let end = valid.end in let fits = valid.fits in let one = config.capacity in seen_at (max n v.front + 1) (omega (arith, end, fits, one, high)))
        (λ _ late. seen_same (λ m e. sym (same_Some n m (sym at ∙ e)) ∙ at_end valid n at late))

  -- ---- `poll_next`
  pub polled : {is_clone : S → S → Type 0} {v w : View S} {key : ℕ} {found : Poll (Option (S × ℕ))} → Answers is_clone v (call.PollNext key) (reply.PollNext (Ok found)) w → IsConfig v → Looked v w key
  polled {v = v} {key = key} a config =
      let o : Option ℕ = skipped_to v.front (cursor_of v.control key) in
      let c : Control = receive v key o in
      let here = moved v key config (valid a) (cursor_of v.control key) refl in
      after a (λ u. Looked v u key)
      (λ sends. elim (is_empty_reply (try_recv_reply v o)) as (λ b. Looked v (with_sends (settle v (sets (listens c (stream_of key) b))) sends) key) [
        | true ↦ heard v (settle v (sets c)) key (record (pair_waits c (stream_of key)) { waiting_sends = sends }) refl refl refl refl here
        | false ↦ heard v (settle v (sets c)) key (record (pair_answered c (stream_of key)) { waiting_sends = sends }) refl refl refl refl here
      ])

  -- ---- `new_receiver`: a watcher is added, which has seen the latest settings, or nothing changes
  pub watches : {is_clone : S → S → Type 0} {v w : View S} {result : Result ℕ HandleError} → Answers is_clone v call.NewReceiver (reply.NewReceiver result) w → IsConfig v
      → IsConfig w × IfOk result (λ made. (get w.control.cursors made ≡ Some v.end) × KeepsOthers v w made)
  watches {v = v} {result = Ok key} a config =
      let c : Control = with_cursor v.control key v.end in
      let s = after a (λ u. Looked v u key × (get u.control.cursors key ≡ Some v.end))
      (λ sends. (heard v (settle v (sets c)) key (record c { waiting_sends = sends }) refl refl refl refl (seen_at v key config v.end refl), inserted v.control.cursors key v.end)) in
      (s.0.config, (s.1, s.0.others))
  watches {v = v} {result = Err error} a config = subst (λ u. IsConfig u × Unit {0}) (sym (unchanged a refl)) (config, tt)

  -- ---- `try_broadcast`
  -- only the last of the kept messages is left
  latest : {is_clone : S → S → Type 0} {v w : View S} {msg : S} {back : Option S} → Answers is_clone v (call.TryBroadcast msg) (reply.TryBroadcast (Ok back)) w → IsConfig v → (w.queue ≡ msg ∷ []) × (w.end ≡ v.end + 1)
  latest {v = v} {msg = msg} a config =
      let low : ℕ = least (v.end + 1) (values (accepting v.control (v.end + 1)).cursors) in
      let watcher = somebody v.control.cursors config.watchers in
      let reach = (valid a).reach watcher.0 watcher.1 watcher.2 in
      let behind = least-le-cursor (v.end + 1) (accepting v.control (v.end + 1)).cursors watcher.0 watcher.1 (ap (λ m. get m watcher.0) (cursors-accepting v.control (v.end + 1)) ∙ watcher.2) in
      let end = (valid a).end in
      let fits = (valid a).fits in
      let one = config.capacity in
      let size : length v.queue ≡ max (max v.front (accept v msg).floor) low - v.front =
      test_is (λ floor. length v.queue ≡ max (max v.front floor) low - v.front) (is_full v) (v.front + 1) 0
      (λ full. let full_at : length v.queue ≡ v.control.capacity = grind (arith, common_steps, full) in omega (arith, full_at, one, end, reach, behind))
      (λ room. let room_at : length v.queue ≡ v.control.capacity → ⊥ = grind (arith, common_steps, room) in let none : length v.queue ≡ 0 = omega (arith, fits, one, room_at) in omega (arith, none, end, reach, behind)) in
      accepted a (λ u. (u.queue ≡ msg ∷ []) × (u.end ≡ v.end + 1)) (λ _. (drop_at v.queue (msg ∷ []) (max (max v.front (accept v msg).floor) low - v.front) size, refl))

  pub set_latest : {is_clone : S → S → Type 0} {v w : View S} {msg : S} {result : Result (Option S) (TrySendError S)} {kept : Result (Unit {0}) S} → Answers is_clone v (call.TryBroadcast msg) (reply.TryBroadcast result) w → IsConfig v
      → kept ≡ set_answer result → OnOk kept ((w.queue ≡ msg ∷ []) × (w.end ≡ v.end + 1))
  set_latest {result = Ok back} a config is = rw is (latest a config)
  set_latest {result = Err error} a config is = rw is tt
