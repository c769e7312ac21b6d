-- What a reply gives a receiver, and its cursor afterwards.
use Rattle.std.proofs.Common.{◌≡◌, ◌⊎◌, inl, inr, ℕ, ◌+◌, ◌-◌, ◌<◌, ◌≤◌, Bool, true, false, cond, List, [], ◌∷◌, ◌++◌, length, replicate, Option, Some, None, Ok, Err, Result, nat_lt, slice_get, refl, sym, ap, ◌∙◌, subst, arith, length-append, IsSomeAnd, is_some}
use Rattle.std.proofs.lemmas.Grind.{common_steps}
use Rattle.std.proofs.lemmas.Option.{slice_get_cases}
use Rattle.std.proofs.lemmas.List.{length-replicate}
use Rattle.std.specs.FinMap.{get, insert}
use Rattle.std.proofs.lemmas.Bool.{cases_lt}
use Rattle.bcast_model.specs.Words.{TryRecvError, Cursors, with_cursor, cursor_of, History, view_of}
use Rattle.bcast_model.specs.Words.{front_number, end_number, numbered, kept_at, receive}
use Rattle.bcast_model.specs.Words.{recv_reply, try_recv_reply, IsGiven, AllFrom}
use Rattle.bcast_model.specs.declared.error.TryRecvError.TheVariants as unread
use Rattle.bcast_model.proofs.Views.{numbered-queue, first_under}
use Rattle.bcast_model.proofs.DeliveryMaps.{inserted}
use Rattle.bcast_model.proofs.DeliveryLists.{all_from_missed, all_from_append}
use Rattle.bcast_model.proofs.Cases.{lagging_reply, passed_reply, lagging_receive, passed_receive}

module _ {T : Type 0} where
  -- what is handed out for the message of this number: None before the front, then the message
  abbrev pub IsGivenAt : (T → T → Type 0) → History T → ℕ → Option T → Type 0
  IsGivenAt is_clone h number None = number < front_number h
  IsGivenAt is_clone h number (Some given) = (front_number h ≤ number) × IsSomeAnd (numbered h number) (λ accepted. IsGiven is_clone accepted given)

  -- what a call gives the receiver `key` at this cursor
  pub record Gives (is_clone : T → T → Type 0) (h : History T) (key cursor : ℕ) (new : Cursors) (entries : List (Option T)) : Type 0 where
    pub cursor_after : (get new key ≡ Some (cursor + length entries)) ⊎ ((get new key ≡ None) × (entries ≡ []))
    pub each : AllFrom (IsGivenAt is_clone h) cursor entries

  pub gives_nothing : {is_clone : T → T → Type 0} (h : History T) (key cursor : ℕ) (new : Cursors) → (get new key ≡ Some cursor) ⊎ (get new key ≡ None) → Gives is_clone h key cursor new []
  gives_nothing h key cursor new after = record { cursor_after = elim after [ inl e ↦ inl (e ∙ ap Some (omega arith)) | inr e ↦ inr (e, refl) ]; each = tt }

  gives_overflowed : {is_clone : T → T → Type 0} (h : History T) (key cursor : ℕ) (m : Cursors) → cursor < front_number h → Gives is_clone h key cursor (insert m key (front_number h)) (replicate (front_number h - cursor) None)
  gives_overflowed {is_clone = is_clone} h key cursor m low =
      let size = length-replicate {A = Option T} (front_number h - cursor) None in
      record {
        cursor_after = inl (inserted m key (front_number h) ∙ ap Some (omega (arith, size, low)));
        each = all_from_missed (IsGivenAt is_clone h) cursor (front_number h - cursor) (λ n from below. let under : n < front_number h = omega (arith, from, below) in under);
      }

  -- a message after some that are skipped
  gives_message : {is_clone : T → T → Type 0} (h : History T) (key cursor skips : ℕ) (m : Cursors) (msg given : T) → front_number h ≤ cursor + skips → (skips ≡ 0) ⊎ (cursor + skips ≡ front_number h)
      → numbered h (cursor + skips) ≡ Some msg → IsGiven is_clone msg given → Gives is_clone h key cursor (insert m key (cursor + skips + 1)) (replicate skips None ++ Some given ∷ [])
  gives_message {is_clone = is_clone} h key cursor skips m msg given low exact there is =
      let size = length-append {A = Option T} (replicate skips None) (Some given ∷ []) in
      let skipped_size = length-replicate {A = Option T} skips None in
      let same : cursor + skips ≡ cursor + length (replicate {A = Option T} skips None) = omega (arith, skipped_size) in
      let missed = λ (n : ℕ) (from : cursor ≤ n) (below : n < cursor + skips). let under : n < front_number h = elim exact [ inl none ↦ absurd (omega (arith, none, from, below)) | inr at ↦ omega (arith, at, below) ] in under in
      record {
        cursor_after = inl (inserted m key (cursor + skips + 1) ∙ ap Some (omega (arith, size, skipped_size)));
        each = all_from_append (IsGivenAt is_clone h) cursor (replicate skips None) (Some given ∷ []) (all_from_missed (IsGivenAt is_clone h) cursor skips missed)
            (subst (λ n. AllFrom (IsGivenAt is_clone h) n (Some given ∷ [])) same ((low, subst (λ o. IsSomeAnd o (λ accepted. IsGiven is_clone accepted given)) (sym there) is), tt));
      }

  -- ---- the results of a receive
  abbrev pub entries_of : ℕ → Result T TryRecvError → List (Option T)
  entries_of skips (Ok msg) = replicate skips None ++ Some msg ∷ []
  entries_of skips (Err (unread.Overflowed n)) = replicate n None
  entries_of skips (Err unread.Empty) = []
  entries_of skips (Err unread.Closed) = []

  -- the exact result, or with a clone in place of the message
  abbrev pub IsAnswer : (T → T → Type 0) → Result T TryRecvError → Result T TryRecvError → Type 0
  IsAnswer is_clone exact answer = (answer ≡ exact) ⊎ ((msg : T) × (given : T) × (exact ≡ Ok msg) × is_clone msg given × (answer ≡ Ok given))

  pub ok_err : {A : Type 0} (msg : T) (error : TryRecvError) → ◌≡◌ {A = Result T TryRecvError} (Err error) (Ok msg) → A
  ok_err msg error e = cc

  nothing_found : (skips : ℕ) (closed : Bool) → entries_of skips (recv_reply closed None) ≡ []
  nothing_found skips true = refl
  nothing_found skips false = refl

  -- the messages are numbered up to the end
  numbered_there : (h : History T) (n : ℕ) (o : Option T) → h.first ≤ n → numbered h n ≡ o → nat_lt n (end_number h) ≡ is_some o
  numbered_there h n o low e =
      let under : nat_lt n h.first ≡ false = grind (arith, common_steps, low) in
      elim (slice_get_cases h.accepted (n - h.first)).1 [
        | inl (msg, within, there, same) ↦ (let is : is_some o ≡ true = ap is_some (sym e ∙ ap (λ b. cond b None (slice_get h.accepted (n - h.first))) under ∙ there) in rw is (grind (arith, common_steps, within, low)))
        | inr past ↦ (let is : is_some o ≡ false = ap is_some (sym e ∙ ap (λ b. cond b None (slice_get h.accepted (n - h.first))) under ∙ past.1) in let after = past.0 in rw is (grind (arith, common_steps, after, low)))
      ]

  gives_found : {is_clone : T → T → Type 0} (h : History T) (key cursor skips : ℕ) (answer : Result T TryRecvError) (o : Option T) → h.first ≤ h.floor → cursor_of h.control key ≡ Some cursor
      → front_number h ≤ cursor + skips → (skips ≡ 0) ⊎ (cursor + skips ≡ front_number h) → numbered h (cursor + skips) ≡ o → IsAnswer is_clone (recv_reply h.control.closed o) answer
      → Gives is_clone h key cursor (cond (nat_lt (cursor + skips) (end_number h)) (with_cursor h.control key (cursor + skips + 1)) h.control).cursors (entries_of skips answer)
  gives_found {is_clone = is_clone} h key cursor skips answer None low is from exact there (inl e) =
      let past : nat_lt (cursor + skips) (end_number h) ≡ false = numbered_there h (cursor + skips) None (omega arith) there in
      rw (e, past) (subst (Gives is_clone h key cursor h.control.cursors) (sym (nothing_found skips h.control.closed)) (gives_nothing h key cursor h.control.cursors (inl is)))
  gives_found h key cursor skips answer None low is from exact there (inr (msg, given, was, copy, e)) = ok_err msg _ was
  gives_found h key cursor skips answer (Some msg) low is from exact there (inl e) =
      let within : nat_lt (cursor + skips) (end_number h) ≡ true = numbered_there h (cursor + skips) (Some msg) (omega arith) there in
      rw (e, within) (gives_message h key cursor skips h.control.cursors msg msg from exact there (inl refl))
  gives_found {is_clone = is_clone} h key cursor skips answer (Some msg) low is from exact there (inr (original, given, same, copy, e)) =
      let within : nat_lt (cursor + skips) (end_number h) ≡ true = numbered_there h (cursor + skips) (Some msg) (omega arith) there in
      rw (e, within) (gives_message h key cursor skips h.control.cursors msg given from exact there (inr (subst (λ m. is_clone m given) (let is : original ≡ msg = cc in is) copy)))

  pub gives_answer : {is_clone : T → T → Type 0} (h : History T) (key cursor skips : ℕ) (answer : Result T TryRecvError) → h.first ≤ h.floor → cursor_of h.control key ≡ Some cursor
      → (skips ≡ 0) ⊎ (cursor + skips ≡ front_number h) → IsAnswer is_clone (try_recv_reply (view_of h) (Some (cursor + skips))) answer
      → Gives is_clone h key cursor (receive (view_of h) key (Some (cursor + skips))).cursors (entries_of skips answer)
  gives_answer {is_clone = is_clone} h key cursor skips answer low is exact given = elim (cases_lt (cursor + skips) (front_number h)) [
    | inl lags ↦
        let none : skips ≡ 0 = elim exact [ inl e ↦ e | inr e ↦ absurd (omega (arith, e, lags)) ] in
        let same : front_number h - (cursor + skips) ≡ front_number h - cursor = omega (arith, none) in
        let is : answer ≡ Err (unread.Overflowed (front_number h - (cursor + skips))) = elim (subst (λ exact. IsAnswer is_clone exact answer) (lagging_reply (view_of h) (cursor + skips) lags) given) [ inl e ↦ e | inr (msg, x, was, copy, e) ↦ ok_err msg _ was ] in
        rw (lagging_receive (view_of h) key (cursor + skips) lags, is, same) (gives_overflowed h key cursor h.control.cursors (omega (arith, lags)))
    | inr from ↦
        rw (passed_receive (view_of h) key (cursor + skips) from)
        (gives_found h key cursor skips answer (kept_at (view_of h) (cursor + skips)) low is from exact (numbered-queue h (cursor + skips) (first_under h low) from)
        (subst (λ exact. IsAnswer is_clone exact answer) (passed_reply (view_of h) (cursor + skips) from) given))
  ]
