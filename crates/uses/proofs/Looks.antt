-- What a watcher of settings finds.
use Rattle.std.proofs.Common.{◌≡◌, inl, inr, ℕ, zero, suc, ◌-◌, ◌≤◌, true, false, Bool, List, [], ◌∷◌, length, max, Option, Some, None, Ok, slice_get, refl, sym, ap, ◌∙◌, subst, arith, IfSome, IfNone}
use Rattle.std.proofs.lemmas.Option.{none-some, same_Some}
use Rattle.futures.specs.declared.task.Poll.{Poll}
use Rattle.bcast_model.specs.declared.run.Call.TheVariants as call
use Rattle.bcast_model.specs.declared.run.Reply.{Reply}
use Rattle.bcast_model.specs.Words.{cursor_of, recv_reply, skipped_count, skipped_to, next_reply}
use Rattle.bcast_model.specs.Words.{try_recv_reply, worded, IsGiven, IsReceivedBy, View, kept_at}
use Rattle.bcast_model.specs.Words.{Answers, IsValidView}
use Rattle.bcast_model.specs.declared.run.Reply.TheVariants as reply
use Rattle.bcast_model.proofs.Cases.{passed_reply, received_is}
use Rattle.bcast_model.proofs.Clones.{found_message}
use Rattle.bcast_model.proofs.DeliveryLists.{past_end}
use Rattle.uses.specs.Config.{IsConfig, IsLatest, IsUpToDate, change_of}
use Rattle.uses.proofs.Called.{valid}
use Rattle.uses.proofs.Configs.{at_end}

module _ {S : Type 0} where
  one_kept : (items : List S) (index : ℕ) (item : S) → length items ≤ 1 → slice_get items index ≡ Some item → (index ≡ 0) × (items ≡ item ∷ [])
  one_kept [] index item few e = absurd (none-some item e)
  one_kept (first ∷ []) zero item few e = (refl, ap (λ x. x ∷ []) (same_Some first item e))
  one_kept (first ∷ []) (suc index) item few e = absurd (none-some item e)
  one_kept (first ∷ second ∷ items) index item few e = absurd (omega arith)

  -- ---- what a watcher finds
  module _ (is_clone : S → S → Type 0) (v : View S) (key : ℕ) (config : IsConfig v) (valid : IsValidView v) where
    abbrev pub Finds : Poll (Option (S × ℕ)) → Type 0
    Finds polled = IfSome (change_of polled) (IsLatest is_clone v key) × IfNone (change_of polled) (IsUpToDate v key)

    -- by the poll's reply, which spells what was found so
    found : (cursor : Option ℕ) (skips : ℕ) (polled : Poll (Option (S × ℕ))) → Finds (next_reply skips (try_recv_reply v cursor)) → ((msg given : S) → try_recv_reply v cursor ≡ Ok msg → is_clone msg given → Finds (next_reply skips (Ok given)))
        → IsReceivedBy is_clone v key cursor (worded reply.PollNext (next_reply skips)) (reply.PollNext (Ok polled)) → Finds polled
    found cursor skips polled exact cloned legal = received_is (λ (r : Reply S). r ≡ reply.PollNext (Ok polled) → Finds polled) is_clone v key cursor (worded reply.PollNext (next_reply skips)) (reply.PollNext (Ok polled)) legal
        (λ e. subst Finds (let same : next_reply skips (try_recv_reply v cursor) ≡ polled = cc in same) exact)
        (λ _ msg given was copy e. subst Finds (let same : next_reply skips (Ok given) ≡ polled = cc in same) (cloned msg given was copy))
        (λ _ e. absurd (cc)) refl

    module _ (cursor : ℕ) (at : cursor_of v.control key ≡ Some cursor) where
      -- the only message, or a clone of it
      finds_message : (msg given : S) → kept_at v (max cursor v.front) ≡ Some msg → IsGiven is_clone msg given → Finds (next_reply (v.front - cursor) (Ok given))
      finds_message msg given is from =
          let fits = valid.fits in
          let room = config.capacity in
          let one = one_kept v.queue (max cursor v.front - v.front) msg (omega (arith, fits, room)) is in
          let size = ap length one.1 in
          let first = one.0 in
          let end = valid.end in
          (record { seen = cursor; at = at; missed = omega arith; latest = msg; kept = one.1; given = from }, tt)

      none_left : kept_at v (max cursor v.front) ≡ None → IsUpToDate v key
      none_left is =
          let past = past_end v.queue (max cursor v.front - v.front) is in
          let end = valid.end in
          λ seen f. sym (same_Some cursor seen (sym at ∙ f)) ∙ at_end v key config valid cursor at (omega arith)

      finds_kept : (o : Option S) (closed : Bool) → kept_at v (max cursor v.front) ≡ o → Finds (next_reply (v.front - cursor) (recv_reply closed o))
      finds_kept (Some msg) closed is = finds_message msg msg is (inl refl)
      finds_kept None true is = (tt, none_left is)
      finds_kept None false is = (tt, none_left is)

    found_at : (o : Option ℕ) (polled : Poll (Option (S × ℕ))) → cursor_of v.control key ≡ o
        → IsReceivedBy is_clone v key (skipped_to v.front o) (worded reply.PollNext (next_reply (skipped_count v.front o))) (reply.PollNext (Ok polled)) → Finds polled
    found_at (Some cursor) polled at legal =
        let passed = passed_reply v (max cursor v.front) (omega arith) in
        found (Some (max cursor v.front)) (v.front - cursor) polled
        (subst (λ answer. Finds (next_reply (v.front - cursor) answer)) (sym passed) (finds_kept cursor at (kept_at v (max cursor v.front)) v.control.closed refl))
        (λ msg given was copy. finds_message cursor at msg given (found_message v.control.closed (kept_at v (max cursor v.front)) msg (sym passed ∙ was)) (inr copy)) legal
    found_at None polled at legal = found None 0 polled (tt, λ seen f. absurd (none-some seen (sym at ∙ f))) (λ msg given was copy. absurd (cc)) legal

  pub looks : {is_clone : S → S → Type 0} {v w : View S} {key : ℕ} (polled : Poll (Option (S × ℕ))) → (a : Answers is_clone v (call.PollNext key) (reply.PollNext (Ok polled)) w) → (config : IsConfig v) → Finds is_clone v key config (valid a) polled
  looks {is_clone = is_clone} {v = v} {key = key} polled a config = found_at is_clone v key config (valid a) (cursor_of v.control key) polled refl a.legal
