-- A channel all of whose messages are this one.
use Rattle.std.proofs.Common.{◌≡◌, ℕ, ◌-◌, [], Option, Some, None, Ok, slice_get, refl, sym, ◌∙◌, subst, All, IsSomeAnd, is_ok}
use Rattle.std.proofs.lemmas.List.Elements.{All-nil, All-push, All-append, All-drop}
use Rattle.std.proofs.lemmas.Option.{slice_get_within, get_or_from_slice_get}
use Rattle.bcast_model.specs.declared.run.Call.TheVariants as call
use Rattle.bcast_model.specs.declared.run.Reply.TheVariants as reply
use Rattle.bcast_model.specs.declared.run.Call.{Call}
use Rattle.bcast_model.specs.declared.run.Reply.{Reply}
use Rattle.bcast_model.specs.Words.{effect, opening, View, try_broadcast_reply, accept, settle}
use Rattle.bcast_model.specs.Words.{IsGiven, Represents, Answers, ReceivedIsGiven, Effect, sets}
use Rattle.bcast_model.proofs.Cases.{test_is}
use Rattle.uses.proofs.Called.{after}

module _ {T : Type 0} (msg : T) where
  abbrev pub Only : View T → Type 0
  Only v = All (λ item. item ≡ msg) v.queue

  only_next : {is_clone : T → T → Type 0} {v w : View T} {c : Call T} {r : Reply T} → Only v → Answers is_clone v c r w → All (λ item. item ≡ msg) (effect v c r).accepted → Only w
  only_next {v = v} {c = c} {r = r} only a accepted = after a Only (λ _. All-drop (λ item. item ≡ msg) ((settle v (effect v c r)).front - v.front) _ (All-append (λ item. item ≡ msg) v.queue (effect v c r).accepted only accepted))

  pub only_new : (v : View T) (capacity key : ℕ) → Represents v (opening capacity 0 key) → Only v
  only_new v capacity key new = subst Only (sym new) (All-drop (λ item. item ≡ msg) _ [] (All-nil (λ item. item ≡ msg)))

  -- after a call that accepts no message
  pub only_same : {is_clone : T → T → Type 0} {v w : View T} {c : Call T} {r : Reply T} → Only v → Answers is_clone v c r w → (effect v c r).accepted ≡ [] → Only w
  only_same only a none = only_next only a (subst (All (λ item. item ≡ msg)) (sym none) (All-nil (λ item. item ≡ msg)))

  pub only_sent : {is_clone : T → T → Type 0} {v w : View T} {r : Reply T} → Only v → Answers is_clone v (call.TryBroadcast msg) r w → Only w
  only_sent {v = v} only a = only_next only a (test_is (λ (e : Effect T). All (λ item. item ≡ msg) e.accepted) (is_ok (try_broadcast_reply v msg)) (accept v msg) (sets v.control) (λ _. All-push (λ item. item ≡ msg) [] msg (All-nil (λ item. item ≡ msg)) refl) (λ _. All-nil (λ item. item ≡ msg)))

  -- what is handed out is the one message, or a clone of it
  pub given_only : {is_clone : T → T → Type 0} {v w : View T} {key : ℕ} {given : T} → Only v → Answers is_clone v (call.TryRecv key) (reply.TryRecv (Ok (Ok given))) w → ReceivedIsGiven is_clone → IsGiven is_clone msg given
  given_only {is_clone = is_clone} {v = v} {key = key} {given = given} only a law =
      let from = law.try_recv v key given a.legal in
      given_one from.index (slice_get v.queue from.index) refl from.message
    where
      given_one : (index : ℕ) (o : Option T) → slice_get v.queue index ≡ o → IsSomeAnd o (λ item. IsGiven is_clone item given) → IsGiven is_clone msg given
      given_one index (Some item) at is = subst (λ m. IsGiven is_clone m given) (sym (get_or_from_slice_get v.queue index item item at) ∙ only index item (slice_get_within v.queue index item at)) is
      given_one index None at is = absurd is
