-- A reply that hands a list back hands back the list of its call.
use Rattle.std.proofs.Common.{◌≡◌, inl, inr, ◌<◌, ◌+◌, ◌∷◌, [], ◌++◌, map, take, get_or, Bool, true, false, cond, List, Some, None, Ok, Err, nat_lt, length, refl, sym, ap, ◌∙◌, subst, ℕ}
use Rattle.std.proofs.lemmas.List.{map_push, take_more}
use Rattle.bcast_model.specs.declared.error.TrySendError.TheVariants as unsent
use Rattle.bcast_model.specs.declared.run.Call.TheVariants as call
use Rattle.bcast_model.specs.declared.run.Reply.TheVariants as reply
use Rattle.bcast_model.specs.declared.run.Call.{Call}
use Rattle.bcast_model.specs.declared.run.Reply.{Reply}
use Rattle.bcast_model.specs.Words.{has_no_receiver, View, free_room, Legal, worded, cursor_of}
use Rattle.bcast_model.specs.Words.{skipped_to, skipped_count, future_reply, stream_reply}
use Rattle.bcast_model.specs.Words.{next_reply}
use Rattle.bcast_record.specs.declared.entry.Entry.{Entry}
use Rattle.bcast_model.proofs.Cases.{made_is, received_is}
use Rattle.bcast_record.specs.Copies.{list_of, IsListOf}

module _ {T : Type 0} where
  refused : (closed nobody over : Bool) (msgs : List T)
      → IsListOf (Some msgs) (reply.TryBroadcastAll (cond closed (Err (unsent.Closed msgs)) (cond nobody (Err (unsent.Inactive msgs)) (cond over (Err (unsent.Full msgs)) (Ok tt)))))
  refused false false false msgs = tt
  refused closed nobody over msgs = refl

  pub legal_list : (is_clone : T → T → Type 0) (v : View T) (c : Call T) (r : Reply T) → Legal is_clone v c r → IsListOf (list_of c) r
  legal_list is_clone v (call.TryBroadcastAll msgs) r legal = subst (IsListOf (Some msgs)) (sym legal) (refused v.control.closed (has_no_receiver v.control) (nat_lt (free_room v) (length msgs)) msgs)
  legal_list is_clone v call.BeginSend r (inl (place, is, free)) = subst (IsListOf {T = T} None) (sym is) tt
  legal_list is_clone v call.BeginSend r (inr is) = subst (IsListOf {T = T} None) (sym is) tt
  legal_list is_clone v (call.SetCapacity n) r (inl is) = subst (IsListOf {T = T} None) (sym is) tt
  legal_list is_clone v (call.SetCapacity n) r (inr (is, more)) = subst (IsListOf {T = T} None) (sym is) tt
  legal_list is_clone v (call.TryRecv key) r legal = received_is (IsListOf {T = T} None) is_clone v key (cursor_of v.control key) reply.TryRecv r legal tt (λ _ _ _ _ _. tt) (λ _. tt)
  legal_list is_clone v (call.PollFuture key) r legal =
      received_is (IsListOf {T = T} None) is_clone v key (cursor_of v.control key) (worded reply.PollFuture future_reply) r legal tt (λ _ _ _ _ _. tt) (λ _. tt)
  legal_list is_clone v (call.PollRecv key) r legal =
      received_is (IsListOf {T = T} None) is_clone v key (cursor_of v.control key) (worded reply.PollRecv stream_reply) r legal tt (λ _ _ _ _ _. tt) (λ _. tt)
  legal_list is_clone v (call.PollNext key) r legal =
      let cursor = cursor_of v.control key in
      received_is (IsListOf {T = T} None) is_clone v key (skipped_to v.front cursor) (worded reply.PollNext (next_reply (skipped_count v.front cursor))) r legal tt (λ _ _ _ _ _. tt) (λ _. tt)
  legal_list is_clone v call.NewReceiver r legal = made_is (IsListOf {T = T} None) true v.control.cursors reply.NewReceiver r (inr (refl, legal)) (λ _ _. tt) (λ _. tt)
  legal_list is_clone v call.Activate r legal = made_is (IsListOf {T = T} None) _ v.control.cursors reply.Activate r legal (λ _ _. tt) (λ _. tt)
  legal_list is_clone v call.ActivateCloned r legal = made_is (IsListOf {T = T} None) _ v.control.cursors reply.ActivateCloned r legal (λ _ _. tt) (λ _. tt)
  legal_list is_clone v (call.CloneReceiver key) r legal = made_is (IsListOf {T = T} None) _ v.control.cursors reply.CloneReceiver r legal (λ _ _. tt) (λ _. tt)
  legal_list is_clone v c r legal = subst (IsListOf {T = T} None) (sym legal) tt

  -- an entry that was made with a copy of the call
  pub same_entry : {made : Entry T} {seat : ℕ} {copy call : Call T} {r : Reply T} → made ≡ record { seat = seat; call = copy; reply = r } → copy ≡ call → made ≡ record { seat = seat; call = call; reply = r }
  same_entry {seat = seat} {r = r} is same = is ∙ (λ i. record { seat = seat; call = same i; reply = r })

  -- the calls of the entries up to one more
  pub calls_more : (entries : List (Entry T)) (index : ℕ) (entry : Entry T) (copy : Call T) → index < length entries → entry ≡ get_or entries index entry → copy ≡ entry.call
      → map (λ e. e.call) (take index entries) ++ copy ∷ [] ≡ map (λ e. e.call) (take (index + 1) entries)
  calls_more entries index entry copy within at same =
      let calls : List (Call T) = map (λ (e : Entry T). e.call) (take index entries) in
      (λ i. calls ++ same i ∷ []) ∙ (λ i. calls ++ (at i).call ∷ []) ∙ sym (map_push (λ (e : Entry T). e.call) (take index entries) (get_or entries index entry))
      ∙ sym (ap (map (λ (e : Entry T). e.call)) (take_more entries index entry within))
