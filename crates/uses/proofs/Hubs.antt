-- A hub that refuses when it is full.
use Rattle.std.proofs.Common.{◌≡◌, ◌+◌, ◌≤◌, ℕ, false, Option, Some, None, Result, Ok, refl, sym, ◌∙◌, subst, arith, nat_cmp}
use Rattle.std.proofs.lemmas.Grind.{common_steps}
use Rattle.std.proofs.lemmas.List.{nil_from_length}
use Rattle.std.specs.Cmp.{nat_cmp_total}
use Rattle.std.specs.FinMap.{FinMap, insert, remove, len, empty, len-empty, len-insert, len-remove}
use Rattle.bcast_model.specs.declared.error.TryRecvError.{TryRecvError}
use Rattle.bcast_model.specs.Words.{Control, Listeners, with_cursor, cursor_of, sets, deactivate}
use Rattle.bcast_model.specs.Words.{opening, view_of, NoClone, receive, settle, View, Represents}
use Rattle.bcast_model.specs.Words.{Answers}
use Rattle.bcast_model.specs.declared.run.Call.TheVariants as call
use Rattle.bcast_model.specs.declared.run.Reply.TheVariants as reply
use Rattle.bcast_model.proofs.Cases.{receive_is}
use Rattle.bcast_core.proofs.Settle.{inserted}
use Rattle.uses.specs.Hub.{IsHub, IsOpened}
use Rattle.uses.proofs.Called.{with_sends, valid_after, after}

-- no receiver is left after the only one leaves
abbrev none : FinMap nat_cmp ℕ
none = empty

nobody : (key : ℕ) → len (remove (insert none key 0) key) ≡ 0
nobody key =
    grind (arith, common_steps, len-empty nat_cmp ℕ, len-insert nat_cmp_total none key 0, len-remove nat_cmp_total (insert none key 0) key, inserted none key 0)

module _ {T : Type 0} where
  -- a hub of this capacity, open and unused, without subscribers
  abbrev IsUnused : ℕ → View T → Type 0
  IsUnused capacity u = IsHub u × (u.control.capacity ≡ capacity) × (u.control.closed ≡ false) × (u.end ≡ 0) × (len u.control.cursors ≡ 0)

  -- a new channel whose only receiver is deactivated is a new hub
  pub opened_hub : {v w : View T} {key capacity : ℕ} → Answers NoClone v (call.Deactivate key) (reply.Deactivate (Ok tt)) w → Represents v (opening capacity 0 key) → IsHub w × IsOpened w capacity
  opened_hub {v = v} {w = w} {key = key} {capacity = capacity} a new =
      let first : View T = view_of (opening capacity 0 key) in
      let left : IsUnused capacity w =
      after a (IsUnused capacity)
      (λ sends. subst (λ (x : View T). IsUnused capacity (with_sends (settle x (sets (deactivate x.control key (cursor_of x.control key)))) sends)) (sym new)
      (subst (λ o. IsUnused capacity (with_sends (settle first (sets (deactivate first.control key o))) sends)) (sym (inserted none key 0))
      (record { overflow = refl; sender = omega arith; inactive = omega arith }, refl, refl, refl, nobody key))) in
      let end = (valid_after a).end in
      let unused = left.3 in
      (left.0, record { capacity = left.1; closed = left.2; queue = nil_from_length w.queue (omega (arith, end, unused)); subscribers = left.4; made = v; first = key; opened = new; left = a })

  -- after a receive a hub is still a hub
  pub received_hub : {is_clone : T → T → Type 0} {v w : View T} {key : ℕ} {received : Result T TryRecvError} → Answers is_clone v (call.TryRecv key) (reply.TryRecv (Ok received)) w → IsHub v → IsHub w
  received_hub {v = v} {key = key} a hub = after a IsHub (λ sends. moved sends (cursor_of v.control key))
    where
      still : (sends : Listeners ℕ) (c : Control) → c.overflow ≡ v.control.overflow → c.senders ≡ v.control.senders → c.inactive ≡ v.control.inactive → IsHub (with_sends (settle v (sets c)) sends)
      still sends c overflow senders inactive = record { overflow = overflow ∙ hub.overflow; sender = subst (λ n. 1 ≤ n) (sym senders) hub.sender; inactive = subst (λ n. 1 ≤ n) (sym inactive) hub.inactive }

      moved : (sends : Listeners ℕ) (o : Option ℕ) → IsHub (with_sends (settle v (sets (receive v key o))) sends)
      moved sends None = still sends v.control refl refl refl
      moved sends (Some n) = receive_is v (λ c. IsHub (with_sends (settle v (sets c)) sends)) key n
          (λ _. still sends (with_cursor v.control key v.front) refl refl refl) (λ _ _. still sends (with_cursor v.control key (n + 1)) refl refl refl) (λ _ _. still sends v.control refl refl refl)
