-- What the calls that make or drop a handle, or add or remove a receiver, do to the view.
use Rattle.std.proofs.Common.{◌≡◌, inl, inr, ℕ, ◌+◌, ◌-◌, ◌^◌, ◌<◌, ◌==◌, not, true, false, Option, Some, None, Result, Ok, Err, is_some, refl, sym, ap, ◌∙◌, subst, arith, ne_eqb}
use Rattle.std.proofs.lemmas.Grind.{common_steps}
use Rattle.std.specs.FinMap.{len}
use Rattle.bcast_model.specs.declared.error.HandleError.{HandleError}
use Rattle.bcast_model.specs.declared.run.Call.TheVariants as call
use Rattle.bcast_model.specs.declared.run.Reply.TheVariants as reply
use Rattle.bcast_model.specs.Words.{has_next, NoClone, View, IsValidView, Control, close_if_deserted, cursor_of}
use Rattle.bcast_model.specs.Words.{sets, settle, with_cursor, clone_receiver, drop_receiver, without_receiver}
use Rattle.bcast_model.proofs.Cases.{close_is, deserted_is}
use Rattle.bcast_core.specs.Parts.{Adds, Does}
use Rattle.bcast_core.proofs.Does.{does_sets, does_nothing}
use Rattle.bcast_core.proofs.Settle.{low_close_if_deserted}

pub at_most : (n : ℕ) → n ≡ 18446744073709551615 → has_next n ≡ false
at_most n e = grind (arith, common_steps, e)

pub below_most : (n : ℕ) → n < 18446744073709551616 → (n ≡ 18446744073709551615 → ⊥) → has_next n ≡ true
below_most n fits e = grind (arith, common_steps, e, fits)

pub not_some : (o : Option ℕ) → ((x : ℕ) → o ≡ Some x → ⊥) → o ≡ None
not_some None never = refl
not_some (Some x) never = absurd (never x refl)

pub is_there : (o : Option ℕ) → is_some o ≡ true → (x : ℕ) × (o ≡ Some x)
is_there None e = cc
is_there (Some x) e = (x, refl)

module _ {T : Type 0} where
  -- ---- one more
  pub more_senders : {v : View T} → IsValidView v → (v.control.senders ≡ 18446744073709551615 → ⊥) → Does NoClone v call.NewSender (reply.NewSender (Ok tt)) (record v { control = record v.control { senders = v.control.senders + 1 } })
  more_senders {v = v} valid e =
      let below = below_most v.control.senders valid.control.senders_fit e in
      does_sets (record v.control { senders = v.control.senders + 1 }) (rw below refl) (rw below refl) valid.low refl

  pub more_inactive : {v : View T} → IsValidView v → (v.control.inactive ≡ 0 → ⊥) → (v.control.inactive ≡ 18446744073709551615 → ⊥)
      → Does NoClone v call.CloneInactive (reply.CloneInactive (Ok tt)) (record v { control = record v.control { inactive = v.control.inactive + 1 } })
  more_inactive {v = v} valid is e =
      let some : (v.control.inactive == 0) ≡ false = ne_eqb v.control.inactive 0 is in
      let below = below_most v.control.inactive valid.control.inactive_fit e in
      does_sets (record v.control { inactive = v.control.inactive + 1 }) (rw (some, below) refl) (rw (some, below) refl) valid.low refl

  -- ---- one fewer
  pub fewer_senders : {v : View T} → IsValidView v → 0 < v.control.senders → Does NoClone v call.DropSender reply.DropSender (record v { control = close_if_deserted (record v.control { senders = v.control.senders - 1 }) })
  fewer_senders {v = v} valid is =
      let some : (v.control.senders == 0) ≡ false = ne_eqb v.control.senders 0 (λ e. omega (arith, is, e)) in
      let left = record v.control { senders = v.control.senders - 1 } in
      does_sets (close_if_deserted left) refl (rw some refl) (low_close_if_deserted v left valid.low) refl

  pub fewer_inactive : {v : View T} → IsValidView v → 0 < v.control.inactive → Does NoClone v call.DropInactive reply.DropInactive (record v { control = close_if_deserted (record v.control { inactive = v.control.inactive - 1 }) })
  fewer_inactive {v = v} valid is =
      let some : (v.control.inactive == 0) ≡ false = ne_eqb v.control.inactive 0 (λ e. omega (arith, is, e)) in
      let left = record v.control { inactive = v.control.inactive - 1 } in
      does_sets (close_if_deserted left) refl (rw some refl) (low_close_if_deserted v left valid.low) refl

  -- ---- receivers that are added
  pub added_fits : {v : View T} (new : View T) (cursor : ℕ) (r : Result ℕ HandleError) → IsValidView v → Adds v cursor r new → len new.control.cursors < 2 ^ 64
  added_fits new cursor (Ok key) valid adds = subst (λ (x : View T). len x.control.cursors < 2 ^ 64) (sym adds.1) adds.2
  added_fits new cursor (Err e) valid adds = subst (λ (x : View T). len x.control.cursors < 2 ^ 64) (sym adds.1) valid.control.receivers_fit

  pub new_added : {v new : View T} (end : ℕ) (r : Result ℕ HandleError) → IsValidView v → end ≡ v.end → Adds v end r new → Does NoClone v call.NewReceiver (reply.NewReceiver r) new
  new_added {v = v} end (Ok key) valid at adds = record { legal = inl (key, refl, adds.0); effect = adds.1 ∙ ap (λ n. settle v (sets (with_cursor v.control key n))) at }
  new_added end (Err e) valid at adds = does_nothing valid (inr (ap (λ x. reply.NewReceiver (Err x)) adds.0)) refl adds.1

  pub clone_added : {v new : View T} (key cursor : ℕ) (r : Result ℕ HandleError) → IsValidView v → cursor_of v.control key ≡ Some cursor → Adds v cursor r new → Does NoClone v (call.CloneReceiver key) (reply.CloneReceiver r) new
  clone_added {v = v} key cursor (Ok made) valid at adds = record { legal = inr (ap is_some at, inl (made, refl, adds.0)); effect = adds.1 ∙ ap (λ o. settle v (sets (clone_receiver v.control o (Some made)))) (sym at) }
  clone_added {v = v} key cursor (Err e) valid at adds = does_nothing valid (inr (ap is_some at, inr (ap (λ x. reply.CloneReceiver (Err x)) adds.0))) (ap (λ o. sets (clone_receiver v.control o None)) at) adds.1

  pub cloned_activated : {v new : View T} (end : ℕ) (r : Result ℕ HandleError) → IsValidView v → (v.control.inactive ≡ 0 → ⊥) → end ≡ v.end → Adds v end r new → Does NoClone v call.ActivateCloned (reply.ActivateCloned r) new
  cloned_activated {v = v} end (Ok key) valid is at adds = record { legal = inr (ap not (ne_eqb v.control.inactive 0 is), inl (key, refl, adds.0)); effect = adds.1 ∙ ap (λ n. settle v (sets (with_cursor v.control key n))) at }
  cloned_activated {v = v} end (Err e) valid is at adds = does_nothing valid (inr (ap not (ne_eqb v.control.inactive 0 is), inr (ap (λ x. reply.ActivateCloned (Err x)) adds.0))) refl adds.1

  pub not_added : {v new : View T} (end : ℕ) (r : Result ℕ HandleError) → ((key : ℕ) → r ≡ Ok key → ⊥) → Adds v end r new → new ≡ v
  not_added end (Ok key) never adds = absurd (never key refl)
  not_added end (Err e) never adds = adds.1

  pub activated : {v new : View T} (end key : ℕ) → (v.control.inactive ≡ 0 → ⊥) → end ≡ v.end → cursor_of v.control key ≡ None → new ≡ settle v (sets (with_cursor v.control key end))
      → Does NoClone v call.Activate (reply.Activate (Ok key)) (record new { control = record new.control { inactive = new.control.inactive - 1 } })
  activated {v = v} end key is at free new_is = record {
    legal = inr (ap not (ne_eqb v.control.inactive 0 is), inl (key, refl, free));
    effect = ap (λ (x : View T). record x { control = record x.control { inactive = x.control.inactive - 1 } }) (new_is ∙ ap (λ n. settle v (sets (with_cursor v.control key n))) at);
  }

  -- ---- receivers that leave
  pub receiver_left : {v new : View T} (key : ℕ) → is_some (cursor_of v.control key) ≡ true → new ≡ settle v (sets (without_receiver v.control key))
      → Does NoClone v (call.DropReceiver key) reply.DropReceiver (record new { control = close_if_deserted new.control })
  receiver_left {v = v} key found new_is =
      let at = is_there (cursor_of v.control key) found in
      let left = without_receiver v.control key in
      let Settles : Control → Type 0 = λ now. record (settle v (sets left)) { control = now } ≡ settle v (sets now) in
      record {
        legal = refl;
        effect = ap (λ (x : View T). record x { control = close_if_deserted x.control }) new_is
            ∙ deserted_is Settles left (close_is Settles left (λ _. refl) (λ _. refl)) (λ _. refl)
            ∙ ap (λ o. settle v (sets (drop_receiver v.control key o))) (sym at.1);
      }

  pub deactivated : {v new : View T} (key cursor : ℕ) → IsValidView v → cursor_of v.control key ≡ Some cursor → (v.control.inactive ≡ 18446744073709551615 → ⊥) → new ≡ settle v (sets (without_receiver v.control key))
      → Does NoClone v (call.Deactivate key) (reply.Deactivate (Ok tt)) (record new { control = record new.control { inactive = new.control.inactive + 1 } })
  deactivated {v = v} key cursor valid at e new_is =
      let below = below_most v.control.inactive valid.control.inactive_fit e in
      record {
        legal = rw (at, below) refl;
        effect = ap (λ (x : View T). record x { control = record x.control { inactive = x.control.inactive + 1 } }) new_is ∙ ap (λ c. settle v (sets c)) (rw (at, below) refl);
      }
