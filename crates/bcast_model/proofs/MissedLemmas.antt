-- A run drops rising numbers; what its receivers miss was dropped, and what they are given was not.
use Rattle.std.proofs.Common.{◌≡◌, ◌⊎◌, inl, inr, ℕ, ◌+◌, ◌<◌, ◌≤◌, true, false, List, [], ◌∷◌, ◌++◌, length, Option, Some, None, IsNone, refl, ap, arith, is_some, ⊎_elim}
use Rattle.std.proofs.lemmas.List.Elements.{Contains-append_left, Contains-append_right, Contains-append_cases}
use Rattle.std.specs.List.{AllByRecursion, Contains}
use Rattle.std.specs.List.Sorted.{IsStrictlyIncreasing}
use Rattle.bcast_model.specs.Words.{Call, Reply, History, view_of, front_number, cursor_of, Legal}
use Rattle.bcast_model.specs.Words.{HasPositiveCapacity, next, IsValid, IsRun, end_of_run, given_to}
use Rattle.bcast_model.specs.Words.{deliveries_of, dropped_by, dropped_in, WasDropped, AllFrom}
use Rattle.bcast_model.specs.Words.{MissesWhatIsGone, MissesWhatWasDropped}
use Rattle.bcast_model.proofs.DeliveryAnswers.{IsGivenAt}
use Rattle.bcast_model.proofs.DeliveryLists.{all_from_more, all_from_append}
use Rattle.bcast_model.proofs.DeliverySteps.{gives_call}
use Rattle.bcast_model.proofs.Views.{IsBounded, bounded_valid, floor_under, front-le-cursor}
use Rattle.bcast_model.proofs.RisingNumbers.{IsRising, rising_append, increasing}
use Rattle.bcast_model.proofs.MissedSteps.{drops_next, bounded-next, AreGone, gone_next}

joined : (Gone : ℕ → Type 0) (xs ys : List ℕ) (n : ℕ) → (Gone n ⊎ Contains xs n) ⊎ Contains ys n → Gone n ⊎ Contains (xs ++ ys) n
joined Gone xs ys n (inl (inl gone)) = inl gone
joined Gone xs ys n (inl (inr there)) = inr (Contains-append_left xs ys n there)
joined Gone xs ys n (inr there) = inr (Contains-append_right xs ys n there)

parted : (Gone : ℕ → Type 0) (xs ys : List ℕ) (n : ℕ) → Gone n ⊎ Contains (xs ++ ys) n → (Gone n ⊎ Contains xs n) ⊎ Contains ys n
parted Gone xs ys n (inl gone) = inl (inl gone)
parted Gone xs ys n (inr there) = elim (Contains-append_cases xs ys n there) [ inl first ↦ inl (inr first) | inr second ↦ inr second ]

none_more : (Gone : ℕ → Type 0) (n : ℕ) → Gone n ⊎ Contains [] n → Gone n
none_more Gone n (inl gone) = gone
none_more Gone n (inr there) = absurd (let k = there.1 in omega (arith, k))

gone_as : {T : Type 0} (Gone Other : ℕ → Type 0) (h : History T) → ((n : ℕ) → Gone n → Other n) → ((n : ℕ) → Other n → Gone n) → AreGone Gone h → AreGone Other h
gone_as Gone Other h to from gone = record { bounded = gone.bounded; missed = λ n key cursor is low under. to n (gone.missed n key cursor is low under); under = λ n there. gone.under n (from n there) }

module _ {T : Type 0} (is_clone : T → T → Type 0) where
  -- the numbers that a run drops rise from the floor before it to the floor after it
  rising_run : (h : History T) (calls : List (Call T)) (replies : List (Reply T)) → IsBounded h → AllByRecursion HasPositiveCapacity calls → IsRun is_clone h calls replies
      → (h.floor ≤ (end_of_run h calls replies).floor) × IsRising h.floor (end_of_run h calls replies).floor (dropped_in h calls replies)
  rising_run h (c ∷ calls) (r ∷ replies) bounded allowed run =
      let drops = drops_next is_clone h c r bounded run.0 in
      let rest = rising_run (next h c r) calls replies (bounded-next is_clone h c r allowed.0 bounded run.0) allowed.1 run.1 in
      let rises = drops.rises in
      (omega (arith, rises, rest.0), rising_append h.floor (next h c r).floor (end_of_run (next h c r) calls replies).floor (dropped_by h c r) (dropped_in (next h c r) calls replies) rises rest.0 drops.rising rest.1)
  rising_run h calls replies bounded allowed run = (omega arith, tt)

  pub dropped_rise : (h : History T) (calls : List (Call T)) (replies : List (Reply T)) → IsValid h → AllByRecursion HasPositiveCapacity calls → IsRun is_clone h calls replies → IsStrictlyIncreasing (dropped_in h calls replies)
  dropped_rise h calls replies valid allowed run = increasing h.floor (end_of_run h calls replies).floor (dropped_in h calls replies) (rising_run h calls replies (bounded_valid h valid) allowed run).1

  -- ---- what is gone after a run
  -- after a run, what it dropped is
  gone_run : (Gone : ℕ → Type 0) (h : History T) (calls : List (Call T)) (replies : List (Reply T)) → AreGone Gone h → AllByRecursion HasPositiveCapacity calls → IsRun is_clone h calls replies
      → AreGone (λ n. Gone n ⊎ Contains (dropped_in h calls replies) n) (end_of_run h calls replies)
  gone_run Gone h (c ∷ calls) (r ∷ replies) gone allowed run =
      let now = dropped_by h c r in
      let later = dropped_in (next h c r) calls replies in
      gone_as (λ n. (Gone n ⊎ Contains now n) ⊎ Contains later n) (λ n. Gone n ⊎ Contains (now ++ later) n) (end_of_run (next h c r) calls replies) (joined Gone now later) (parted Gone now later)
      (gone_run (λ n. Gone n ⊎ Contains now n) (next h c r) calls replies (gone_next is_clone Gone h c r gone allowed.0 run.0) allowed.1 run.1)
  gone_run Gone h calls replies gone allowed run = gone_as Gone (λ n. Gone n ⊎ Contains [] n) h (λ n there. inl there) (none_more Gone) gone

  gone_from : (h : History T) (calls : List (Call T)) (replies : List (Reply T)) → IsValid h → AllByRecursion HasPositiveCapacity calls → IsRun is_clone h calls replies → AreGone (WasDropped h calls replies) (end_of_run h calls replies)
  gone_from h calls replies valid allowed run =
      gone_run (λ n. n < h.floor) h calls replies (record { bounded = bounded_valid h valid; missed = λ n key cursor is low under. under; under = λ n below. below }) allowed run

  -- ---- what receivers miss
  -- what one entry of `MissesWhatIsGone` says
  abbrev Tells : (ℕ → Type 0) → (ℕ → Type 0) → ℕ → Option T → Type 0
  Tells Before After number entry = (IsNone entry → After number) × (Before number → IsNone entry)

  -- a call counts as missed what is gone, and nothing else
  misses_now : (Gone : ℕ → Type 0) (h : History T) (key cursor : ℕ) (c : Call T) (r : Reply T) → AreGone Gone h → cursor_of h.control key ≡ Some cursor → Legal is_clone (view_of h) c r → MissesWhatIsGone Gone Gone cursor (given_to key c r)
  misses_now Gone h key cursor c r gone is legal =
      all_from_more (IsGivenAt is_clone h) (Tells Gone Gone) cursor (given_to key c r) tells (gives_call is_clone h key cursor c r gone.bounded.floor_low is legal).each
    where
      tells : (number : ℕ) (entry : Option T) → cursor ≤ number → IsGivenAt is_clone h number entry → Tells Gone Gone number entry
      tells number None from given =
          let under : number < front_number h = given in
          let front = front-le-cursor h key cursor is in
          (λ _. gone.missed number key cursor is from (omega (arith, from, under, front)), λ _. refl)
      tells number (Some msg) from given =
          let kept : front_number h ≤ number = given.0 in
          let low = floor_under h in
          (λ none. cc, λ there. absurd (let below = gone.under number there in omega (arith, kept, low, below)))

  pub tells_dropped : (h : History T) (calls : List (Call T)) (replies : List (Reply T)) (key cursor : ℕ) (c : Call T) (r : Reply T) → IsValid h → AllByRecursion HasPositiveCapacity calls → IsRun is_clone h calls replies
      → cursor_of (end_of_run h calls replies).control key ≡ Some cursor → Legal is_clone (view_of (end_of_run h calls replies)) c r → MissesWhatIsGone (WasDropped h calls replies) (WasDropped h calls replies) cursor (given_to key c r)
  tells_dropped h calls replies key cursor c r valid allowed run is legal = misses_now (WasDropped h calls replies) (end_of_run h calls replies) key cursor c r (gone_from h calls replies valid allowed run) is legal

  -- ---- all deliveries
  misses_later : (Gone : ℕ → Type 0) (h : History T) (key start : ℕ) (calls : List (Call T)) (replies : List (Reply T)) → AreGone Gone h → AllByRecursion HasPositiveCapacity calls → IsRun is_clone h calls replies → cursor_of h.control key ≡ Some start
      → MissesWhatIsGone Gone (λ number. Gone number ⊎ Contains (dropped_in h calls replies) number) start (deliveries_of key h calls replies)
  misses_later Gone h key start (c ∷ calls) (r ∷ replies) gone allowed run is =
      let now = dropped_by h c r in
      let later = dropped_in (next h c r) calls replies in
      let given = given_to key c r in
      let rest = deliveries_of key (next h c r) calls replies in
      let Since : ℕ → Type 0 = λ number. Gone number ⊎ Contains now number in
      let All : ℕ → Type 0 = λ number. Gone number ⊎ Contains (now ++ later) number in
      let first : AllFrom (Tells Gone All) start given = all_from_more (Tells Gone Gone) (Tells Gone All) start given (λ number entry _ told. (λ none. inl (told.0 none), told.1)) (misses_now Gone h key start c r gone is run.0) in
      elim (gives_call is_clone h key start c r gone.bounded.floor_low is run.0).cursor_after [
        | inl after ↦ (let there : is_some (cursor_of (next h c r).control key) ≡ true = ap is_some after in
            let second : AllFrom (Tells Gone All) (start + length given) rest = all_from_more (Tells Since (λ number. Since number ⊎ Contains later number)) (Tells Gone All) (start + length given) rest
            (λ number entry _ told. (λ none. joined Gone now later number (told.0 none), λ before. told.1 (inl before)))
            (misses_later Since (next h c r) key (start + length given) calls replies (gone_next is_clone Gone h c r gone allowed.0 run.0) allowed.1 run.1 after) in
            rw there (all_from_append (Tells Gone All) start given rest first second))
        | inr after ↦ (let left : is_some (cursor_of (next h c r).control key) ≡ false = ap is_some after.0 in rw (left, after.1) tt)
      ]
  misses_later Gone h key start calls replies gone allowed run is = tt

  pub deliveries_tile : (h : History T) (calls : List (Call T)) (replies : List (Reply T)) (key start : ℕ) (later : List (Call T)) (later_replies : List (Reply T)) → IsValid h
      → AllByRecursion HasPositiveCapacity calls → IsRun is_clone h calls replies → AllByRecursion HasPositiveCapacity later → IsRun is_clone (end_of_run h calls replies) later later_replies
      → cursor_of (end_of_run h calls replies).control key ≡ Some start
      → MissesWhatIsGone (WasDropped h calls replies) (λ number. WasDropped h calls replies number ⊎ Contains (dropped_in (end_of_run h calls replies) later later_replies) number) start (deliveries_of key (end_of_run h calls replies) later later_replies)
  deliveries_tile h calls replies key start later later_replies valid allowed run allowed_later run_later is =
      misses_later (WasDropped h calls replies) (end_of_run h calls replies) key start later later_replies (gone_from h calls replies valid allowed run) allowed_later run_later is

  -- ---- from the first call on
  misses_from : (dropped : List ℕ) (h : History T) (calls : List (Call T)) (replies : List (Reply T)) → AreGone (Contains dropped) h → AllByRecursion HasPositiveCapacity calls → IsRun is_clone h calls replies → MissesWhatWasDropped dropped h calls replies
  misses_from dropped h (c ∷ calls) (r ∷ replies) gone allowed run =
      let now = dropped_by h c r in (
        λ key cursor is. misses_now (Contains dropped) h key cursor c r gone is run.0,
        misses_from (dropped ++ now) (next h c r) calls replies
            (gone_as (λ n. Contains dropped n ⊎ Contains now n) (Contains (dropped ++ now)) (next h c r) (λ n. ⊎_elim (Contains-append_left dropped now n) (Contains-append_right dropped now n)) (Contains-append_cases dropped now)
            (gone_next is_clone (Contains dropped) h c r gone allowed.0 run.0)) allowed.1 run.1,
      )
  misses_from dropped h calls replies gone allowed run = tt

  -- if no message was dropped before a run, all that its receivers miss is dropped in it
  pub misses_dropped : (h : History T) (calls : List (Call T)) (replies : List (Reply T)) → IsValid h → h.floor ≡ h.first → AllByRecursion HasPositiveCapacity calls → IsRun is_clone h calls replies → MissesWhatWasDropped [] h calls replies
  misses_dropped h calls replies valid fresh allowed run =
      misses_from [] h calls replies (record {
        bounded = bounded_valid h valid;
        missed = λ n key cursor is low under. (let from = (valid.cursors key cursor is).0 in absurd (omega (arith, from, low, under, fresh)));
        under = λ n there. absurd (let k = there.1 in omega (arith, k));
      }) allowed run
