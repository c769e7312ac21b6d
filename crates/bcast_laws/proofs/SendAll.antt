-- An accepted list keeps its numbers, and receivers are given it in one piece.
use Rattle.std.proofs.Common.{◌≡◌, ℕ, suc, ◌+◌, ◌-◌, ◌≤◌, false, List, [], ◌∷◌, ◌++◌, length, slice_get, nat_lt, Some, None, Ok, refl, sym, ap, ◌∙◌, subst, arith, IfSome, IsSomeAnd}
use Rattle.std.proofs.lemmas.Grind.{common_steps}
use Rattle.std.proofs.lemmas.Option.{same_Some, slice_get_within}
use Rattle.std.specs.FinMap.{get}
use Rattle.bcast_model.specs.declared.run.Call.{Call}
use Rattle.bcast_model.specs.declared.run.Call.TheVariants as call
use Rattle.bcast_model.specs.declared.run.Reply.{Reply}
use Rattle.bcast_model.specs.declared.run.Reply.TheVariants as reply
use Rattle.bcast_model.specs.Words.{cursor_of, History, view_of, end_number, numbered, Legal}
use Rattle.bcast_model.specs.Words.{IsGiven, IsValid, IsRun, end_of_run, AreExact, AreAllExact}
use Rattle.bcast_model.specs.Words.{AtEachPoint, deliveries_of, last_cursor_of}
use Rattle.bcast_laws.specs.SendAll.{after_list, StandsInOnePiece}
use Rattle.bcast_model.proofs.Answers.{next_valid, cursors-next}
use Rattle.bcast_model.proofs.DeliveryLemmas.{deliveries_exact, given_at, numbered_stays}
use Rattle.bcast_model.proofs.DeliveryLists.{past_end}
use Rattle.bcast_model.proofs.SendAll.{stays-offer_all}
use Rattle.bcast_laws.proofs.Sends.{messages_added}

-- an entry of the second of two lists
second_part : {X : Type 0} (xs ys : List X) (index : ℕ) → slice_get (xs ++ ys) (length xs + index) ≡ slice_get ys index
second_part [] ys index = ap (slice_get ys) (omega arith)
second_part (x ∷ xs) ys index = let next : length (x ∷ xs) + index ≡ suc (length xs + index) = omega arith in ap (slice_get (x ∷ (xs ++ ys))) next ∙ second_part xs ys index

module _ {T : Type 0} where
  at_first : (P : History T → List (Call T) → List (Reply T) → Type 0) (h : History T) (calls : List (Call T)) (replies : List (Reply T)) → AtEachPoint P h calls replies → P h calls replies
  at_first P h (c ∷ calls) (r ∷ replies) p = p.0
  at_first P h calls replies p = p

  module _ (is_clone : T → T → Type 0) (h : History T) (msgs : List T) (valid : IsValid h) (legal : Legal is_clone (view_of h) (call.TryBroadcastAll msgs) (reply.TryBroadcastAll (Ok tt))) where
    stands_last : (after_list h msgs).accepted ≡ h.accepted ++ msgs
    stands_last = messages_added is_clone h (call.TryBroadcastAll msgs) (reply.TryBroadcastAll (Ok tt)) legal refl

    module _ (calls : List (Call T)) (replies : List (Reply T)) (run : IsRun is_clone (after_list h msgs) calls replies) where
      keeps_numbers : (index : ℕ) (msg : T) → slice_get msgs index ≡ Some msg → numbered (end_of_run (after_list h msgs) calls replies) (end_number h + index) ≡ Some msg
      keeps_numbers index msg at =
          let from : nat_lt (end_number h + index) h.first ≡ false = grind (arith, common_steps) in
          let place : end_number h + index - h.first ≡ length h.accepted + index = omega arith in
          numbered_stays (after_list h msgs) calls replies (end_number h + index) msg
          (rw from (ap (slice_get (after_list h msgs).accepted) place ∙ ap (λ all. slice_get all (length h.accepted + index)) stands_last ∙ second_part h.accepted msgs index ∙ at))

      exact : AreAllExact is_clone (after_list h msgs) calls replies
      exact = at_first (AreAllExact is_clone) (after_list h msgs) calls replies
          (deliveries_exact is_clone (after_list h msgs) calls replies (next_valid is_clone h (call.TryBroadcastAll msgs) (reply.TryBroadcastAll (Ok tt)) tt valid legal) run)

      delivers : (key start cursor index : ℕ) (msg : T) → cursor_of h.control key ≡ Some start → last_cursor_of key (after_list h msgs) calls replies ≡ Some cursor → end_number h + length msgs ≤ cursor → slice_get msgs index ≡ Some msg
          → IsSomeAnd (slice_get (deliveries_of key (after_list h msgs) calls replies) (end_number h + index - start)) (λ delivery. IfSome delivery (IsGiven is_clone msg))
      delivers key start cursor index msg there last past at =
          let given = deliveries_of key (after_list h msgs) calls replies in
          let same : cursor_of (after_list h msgs).control key ≡ cursor_of h.control key =
          ap (λ cursors. get cursors key) (cursors-next h (call.TryBroadcastAll msgs) (reply.TryBroadcastAll (Ok tt)) ∙ (stays-offer_all (view_of h) msgs).0) in
          let e : AreExact is_clone (after_list h msgs) key start calls replies = exact key start (same ∙ there) in
          let size : cursor ≡ start + length given = same_Some cursor (start + length given) (sym last ∙ e.0) in
          let within = slice_get_within msgs index msg at in
          let reach = (valid.cursors key start there).1 in
          let place : ℕ = end_number h + index - start in
          let number : start + place ≡ end_number h + index = omega (arith, reach) in
          elim (slice_get given place) as (λ o. slice_get given place ≡ o → IsSomeAnd o (λ delivery. IfSome delivery (IsGiven is_clone msg))) [
            | None ↦ λ none. let short = past_end given place none in absurd (omega (arith, short, size, past, within, reach))
            | Some entry ↦ elim entry as (λ x. slice_get given place ≡ Some x → IfSome x (IsGiven is_clone msg)) [
              | None ↦ λ _. tt
              | Some copy ↦ λ is. subst (λ o. IsSomeAnd o (λ accepted. IsGiven is_clone accepted copy)) (ap (numbered (end_of_run (after_list h msgs) calls replies)) number ∙ keeps_numbers index msg at) (given_at is_clone (after_list h msgs) key start calls replies e place copy is)
            ]
          ] refl

      pub stands_in_one_piece : StandsInOnePiece is_clone h msgs calls replies
      stands_in_one_piece = record { last = stands_last; numbers = keeps_numbers; delivered = delivers }
