-- What a call does to a view it does to each valid history with this view, which stays valid.
use Rattle.std.proofs.Common.{◌≡◌, ◌⊎◌, inl, inr, ℕ, ◌+◌, ◌-◌, ◌<◌, ◌≤◌, true, false, cond, ◌++◌, length, max, drop, refl, sym, ap, ◌∙◌, subst, arith, append-nil, length-append}
use Rattle.std.proofs.lemmas.List.{drop-drop, drop-append-le}
use Rattle.std.proofs.lemmas.Bool.{cases_lt, false≢true}
use Rattle.std.specs.FinMap.{len, values}
use Rattle.std.specs.List.{AllByRecursion}
use Rattle.bcast_model.specs.Words.{Listeners, untold_ids, tell, Control, tell_a_sender, History}
use Rattle.bcast_model.specs.Words.{least, end_number, front_number, queue_of, with_control}
use Rattle.bcast_model.specs.Words.{view_of, remember, sends_are_ready, View, tell_if_ready}
use Rattle.bcast_model.specs.Words.{end_call, IsValid, IsValidControl, WouldWait, Effect, settle}
use Rattle.bcast_model.specs.Words.{IsValidView, sets, same_place}
use Rattle.bcast_model.proofs.Least.{least-le-limit, least-le-cursor, least-greatest}
use Rattle.bcast_model.proofs.Cases.{tell_is}
use Rattle.bcast_model.proofs.Listeners.{fit_told}
use Rattle.bcast_model.proofs.Waiting.{test_place, AreSends}
use Rattle.bcast_model.proofs.Sound.{IsAttended, IsNoLower, IsSound}
use Rattle.bcast_model.proofs.Views.{first_under, valid_view}

-- an effect that keeps a history valid, since the end of the call tells a send if sends are ready
pub record KeepsValid {T : Type 0} (v : View T) (e : Effect T) : Type 0 where
  pub floor : (e.floor ≡ 0) ⊎ (e.floor < v.end + length e.accepted)
  pub fits : length (settle v e).queue ≤ e.control.capacity
  pub sound : IsSound v (v.end + length e.accepted) e.control
  pub attended : IsAttended e.control.closed e.control.senders (len e.control.cursors) e.control.inactive (v.end + length e.accepted)

module _ {T : Type 0} where
  pub same_view : (v w : View T) → v.front ≡ w.front → v.queue ≡ w.queue → v.end ≡ w.end → v.control ≡ w.control → v ≡ w
  same_view v w front queue end control = λ i. record { front = front i; queue = queue i; end = end i; control = control i }

  -- ---- the view after an effect
  -- it has the front that the effect's floor, the end and the cursors give
  pub settle_to : (v : View T) (e : Effect T) (new : View T) → max (max v.front e.floor) (least (v.end + length e.accepted) (values e.control.cursors)) ≡ new.front
      → drop (new.front - v.front) (v.queue ++ e.accepted) ≡ new.queue → v.end + length e.accepted ≡ new.end → e.control ≡ new.control → settle v e ≡ new
  settle_to v e new front queue end control = same_view (settle v e) new front (rw front queue) end control

  -- the front stays if some receiver has still to read from it
  pub settle_stays : (v : View T) (c : Control) → least v.end (values c.cursors) ≤ v.front → settle v (sets c) ≡ record v { control = c }
  settle_stays v c low =
      let end : v.end + 0 ≡ v.end = omega arith in
      let front : max (max v.front 0) (least (v.end + 0) (values c.cursors)) ≡ v.front = rw end (omega (arith, low)) in
      let none : v.front - v.front ≡ 0 = omega arith in
      settle_to v (sets c) (record v { control = c }) front (rw none (append-nil v.queue)) end refl

  pub settle_same : (v : View T) → IsValidView v → settle v (sets v.control) ≡ v
  settle_same v valid = settle_stays v v.control valid.low

  -- ---- a valid history after it
  -- no cursor is under the least one
  rises : (v : View T) (e : Effect T) → IsValidView v → KeepsValid v e → least v.end (values v.control.cursors) ≤ least (v.end + length e.accepted) (values e.control.cursors)
  rises v e valid keeps =
      let limit = least-le-limit v.end (values v.control.cursors) in
      let low = valid.low in
      least-greatest (least v.end (values v.control.cursors)) (v.end + length e.accepted) e.control.cursors (omega arith) (λ key cursor f. elim (keeps.sound.cursors key cursor f).1 [
        | inl a ↦ omega arith
        | inr a ↦ (let m = least-le-cursor v.end v.control.cursors a.0 a.1 a.2 in omega (arith, m, a.3))
      ])

  pub view_of-end_call : (h : History T) → view_of (end_call h) ≡ tell_if_ready (view_of h)
  view_of-end_call h =
      elim (sends_are_ready (view_of h)) as (λ ready. view_of (with_control h (cond ready (tell_a_sender h.control) h.control)) ≡ cond ready (record (view_of h) { control = tell_a_sender h.control }) (view_of h)) [ true ↦ refl | false ↦ refl ]

  module _ (h : History T) (e : Effect T) (valid : IsValid h) (keeps : KeepsValid (view_of h) e) where
    end-remember : end_number (remember h e) ≡ end_number h + length e.accepted
    end-remember = omega (arith, length-append h.accepted e.accepted)

    front-remember : front_number (remember h e) ≡ (settle (view_of h) e).front
    front-remember =
        let up = rises (view_of h) e (valid_view h valid) keeps in
        rw end-remember (omega (arith, up))

    pub view_of-remember : view_of (remember h e) ≡ settle (view_of h) e
    view_of-remember =
        let low = first_under h valid.floor_low in
        let view = valid_view h valid in
        let high : front_number h - h.first ≤ length h.accepted = omega (arith, view.high) in
        let new : ℕ = (settle (view_of h) e).front in
        let up : (front_number h - h.first) + (new - front_number h) ≡ new - h.first = omega (arith, low) in
        let queue : queue_of (remember h e) ≡ (settle (view_of h) e).queue =
        ap (λ n. drop (n - h.first) (h.accepted ++ e.accepted)) front-remember
        ∙ ap (λ n. drop n (h.accepted ++ e.accepted)) (sym up)
        ∙ sym (drop-drop (new - front_number h) (front_number h - h.first) (h.accepted ++ e.accepted))
        ∙ ap (drop (new - front_number h)) (drop-append-le (front_number h - h.first) h.accepted e.accepted high) in
        same_view (view_of (remember h e)) (settle (view_of h) e) front-remember queue end-remember refl

    above_first : (cursor : ℕ) → IsNoLower (view_of h) cursor → h.first ≤ cursor
    above_first cursor s =
        let low = first_under h valid.floor_low in
        elim s [ inl p ↦ omega arith | inr p ↦ (let k = (valid.cursors p.0 p.1 p.2).0 in omega (arith, k, p.3)) ]

    -- it is valid with this list of waiting sends
    valid_with : (l : Listeners ℕ) → AreSends e.control.places l → (sends_are_ready (view_of (remember h e)) ≡ true → 1 ≤ length l.ids → 1 ≤ l.told) → IsValid (with_control (remember h e) (record e.control { waiting_sends = l }))
    valid_with l sends one =
        let c : Control = record e.control { waiting_sends = l } in
        let below : (max h.floor e.floor ≡ h.first) ⊎ (max h.floor e.floor < end_number h + length e.accepted) = elim keeps.floor [
          | inl p ↦ elim valid.floor_below [ inl m ↦ inl (omega arith) | inr m ↦ inr (omega arith) ]
          | inr p ↦ elim valid.floor_below [ inl m ↦ elim (cases_lt h.first e.floor) [ inl a ↦ inr (omega arith) | inr a ↦ inl (omega arith) ] | inr m ↦ inr (omega arith) ]
        ] in
        let sizes = keeps.sound.sizes in
        record {
          floor_low = omega (arith, valid.floor_low);
          floor_high = rw end-remember (elim keeps.floor [ inl a ↦ omega (arith, valid.floor_high) | inr a ↦ omega (arith, valid.floor_high) ]);
          floor_below = rw end-remember below;
          cursors = λ key cursor f. (let s = keeps.sound.cursors key cursor f in (above_first cursor s.1, rw end-remember (s.0)));
          fits = subst (λ n. n ≤ e.control.capacity) (sym (ap (λ (v : View T). length v.queue) view_of-remember)) keeps.fits;
          control = subst (IsValidControl c) (sym end-remember) (record {
            capacity = sizes.positive;
            room = sizes.within;
            room_fits = sizes.room_fits;
            receivers_fit = sizes.receivers_fit;
            senders_fit = sizes.senders_fit;
            inactive_fit = sizes.inactive_fit;
            sender = keeps.attended.sender;
            receiver = keeps.attended.receiver;
            end_fits = sizes.end_fits;
            open_end = keeps.attended.open_end;
            lists = record { sends = sends.in_order; receives = keeps.sound.receives.in_order; places = sends.listed; keys = keeps.sound.receives.listed };
          });
          wake_ups = record {
            receives = subst (λ n. AllByRecursion (WouldWait c n) (untold_ids c.waiting_receives)) (sym end-remember) keeps.sound.receives.untold;
            sends = one;
          };
        }

    -- so it is valid after a send was told, if sends are ready
    pub valid_told : IsValid (end_call (remember h e))
    valid_told = tell_is IsValid (remember h e)
        (λ _. valid_with (tell 1 e.control.waiting_sends) (fit_told same_place test_place 1 e.control.waiting_sends keeps.sound.sends) (λ ready some. omega arith))
        (λ unready. valid_with e.control.waiting_sends keeps.sound.sends (λ ready. absurd (false≢true (sym unready ∙ ready))))

    pub view_of-told : view_of (end_call (remember h e)) ≡ tell_if_ready (settle (view_of h) e)
    view_of-told = view_of-end_call (remember h e) ∙ ap tell_if_ready view_of-remember
