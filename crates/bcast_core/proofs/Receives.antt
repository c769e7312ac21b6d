-- What receives do to the view.
use Rattle.std.proofs.Common.{◌≡◌, ◌⊎◌, inl, inr, ℕ, ◌+◌, ◌-◌, ◌<◌, ◌≤◌, true, Option, Some, None, Result, Ok, Err, is_some, max, refl, ap, ◌∙◌, arith, sym}
use Rattle.std.proofs.lemmas.Grind.{common_steps}
use Rattle.std.proofs.lemmas.Option.{slice_get_past, none-some}
use Rattle.std.specs.FinMap.{get}
use Rattle.bcast_model.specs.declared.error.TryRecvError.{TryRecvError}
use Rattle.bcast_model.specs.declared.error.TryRecvError.TheVariants as unread
use Rattle.bcast_model.specs.Words.{Pair, pair_waits, cursor_of, recv_reply, receive, with_cursor}
use Rattle.bcast_model.specs.Words.{skipped_to, is_empty_reply, listens, receive_poll}
use Rattle.bcast_model.specs.Words.{try_recv_reply, IsReceivedBy, View, IsValidView, sets, settle}
use Rattle.bcast_model.proofs.Lists.{all_in}
use Rattle.bcast_model.proofs.Receives.{empty_at as is_empty_at, empty_at_end}
use Rattle.bcast_model.proofs.Waiting.{test_pair}
use Rattle.bcast_core.specs.Telling.{is_untold}
use Rattle.bcast_core.proofs.Settle.{settle_stays, settle_same}

module _ {T : Type 0} where
  -- a receive that finds a message moves the cursor past it
  pub receive_one : (v : View T) (key : ℕ) (at : Option ℕ) (cursor : ℕ) → at ≡ Some cursor → v.front ≤ cursor → cursor < v.end → receive v key at ≡ with_cursor v.control key (cursor + 1)
  receive_one v key at cursor is from below = grind (arith, common_steps)

  -- whether a receive returns `Empty` doesn't depend on clones
  pub empty_exactly : {is_clone : T → T → Type 0} (v : View T) (key : ℕ) (at : Option ℕ) (answer : Result T TryRecvError)
      → IsReceivedBy is_clone v key at (λ found. found) (Ok answer) → is_empty_reply answer ≡ is_empty_reply (try_recv_reply v at)
  empty_exactly v key at answer (inl is) = cc
  empty_exactly v key at answer (inr (o, inl (msg, given, was, copy, is))) = cc
  empty_exactly v key at answer (inr (o, inr is)) = cc

  -- if the receiver lags, it returns how many messages were missed
  pub lagging : (v : View T) (at : Option ℕ) (cursor front : ℕ) → at ≡ Some cursor → front ≡ v.front → cursor < front → try_recv_reply v at ≡ Err (unread.Overflowed (front - cursor))
  lagging v at cursor front is same lags = grind (arith, common_steps)

  -- at the end there is no message
  pub at_end : (v : View T) (at : Option ℕ) (cursor : ℕ) → IsValidView v → at ≡ Some cursor → v.front ≤ cursor → v.end ≤ cursor → try_recv_reply v at ≡ recv_reply v.control.closed None
  at_end v at cursor valid is from beyond = grind (arith, common_steps, slice_get_past)

  -- a receive that finds nothing is at the end
  pub empty_at : (v : View T) (at : Option ℕ) → IsValidView v → is_empty_reply (try_recv_reply v at) ≡ true → (cursor : ℕ) × (at ≡ Some cursor) × (v.front ≤ cursor) × (v.end ≤ cursor)
  empty_at v None valid e = cc
  empty_at v (Some cursor) valid e = let a = is_empty_at v cursor e in (cursor, refl, a.kept, omega (arith, a.kept, a.read, valid.end))

  -- the receiver is there
  pub is_there : (v : View T) (key : ℕ) (o at : Option ℕ) (cursor : ℕ) → at ≡ Some cursor → (at ≡ o) ⊎ (at ≡ skipped_to v.front o) → is_some o ≡ true
  is_there v key None at cursor is (inl e) = absurd (none-some cursor (sym e ∙ is))
  is_there v key None at cursor is (inr e) = absurd (none-some cursor (sym e ∙ is))
  is_there v key (Some c) at cursor is s = refl

  pub empty_there : (v : View T) (key : ℕ) (at : Option ℕ) → IsValidView v → (at ≡ cursor_of v.control key) ⊎ (at ≡ skipped_to v.front (cursor_of v.control key)) → is_empty_reply (try_recv_reply v at) ≡ true → is_some (cursor_of v.control key) ≡ true
  empty_there v key at valid s e = let a = empty_at v at valid e in is_there v key (cursor_of v.control key) at a.0 a.1 s

  pub receive_empty : (v : View T) (key : ℕ) (at : Option ℕ) → IsValidView v → is_empty_reply (try_recv_reply v at) ≡ true → receive v key at ≡ v.control
  receive_empty v key at valid e = let a = empty_at v at valid e in let is = a.1 in let from = a.2 in let beyond = a.3 in grind (arith, common_steps, is, from, beyond)

  pub settle_empty : (v mid : View T) (key : ℕ) (at : Option ℕ) → IsValidView v → is_empty_reply (try_recv_reply v at) ≡ true → mid ≡ settle v (sets (receive v key at)) → mid ≡ v
  settle_empty v mid key at valid e is = is ∙ ap (λ c. settle v (sets c)) (receive_empty v key at valid e) ∙ settle_same v valid

  -- so a poll only waits
  pub settle_waits : (v : View T) (pair : Pair) (at : Option ℕ) → IsValidView v → is_empty_reply (try_recv_reply v at) ≡ true → settle v (sets (receive_poll v pair at)) ≡ record v { control = pair_waits v.control pair }
  settle_waits v pair at valid e =
      ap (λ b. settle v (sets (listens (receive v pair.0 at) pair b))) e
      ∙ ap (λ c. settle v (sets (pair_waits c pair))) (receive_empty v pair.0 at valid e)
      ∙ settle_stays v (pair_waits v.control pair) valid.low

  -- ---- a listener that is listed and not told
  reads_end : (v : View T) (key : ℕ) (at : Option ℕ) → v.front ≤ v.end → get v.control.cursors key ≡ Some v.end → (at ≡ cursor_of v.control key) ⊎ (at ≡ skipped_to v.front (cursor_of v.control key)) → at ≡ Some v.end
  reads_end v key at high is (inl e) = e ∙ is
  reads_end v key at high is (inr e) = let greater : max v.end v.front ≡ v.end = grind (arith, common_steps, high) in e ∙ ap (skipped_to v.front) is ∙ ap (λ n. Some n) greater

  -- a poll by it finds nothing, since no wake-up is lost
  pub untold_empty : (v : View T) (pair : Pair) (at : Option ℕ) → IsValidView v → is_untold v.control pair ≡ true
      → (at ≡ cursor_of v.control pair.0) ⊎ (at ≡ skipped_to v.front (cursor_of v.control pair.0)) → try_recv_reply v at ≡ Err unread.Empty
  untold_empty v pair at valid untold is = grind (arith, common_steps, all_in, test_pair, reads_end, empty_at_end)
