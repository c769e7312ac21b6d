-- The state of a new channel, and a valid history for each valid view.
use Rattle.std.proofs.Common.{◌≡◌, inl, ℕ, ◌+◌, ◌-◌, ◌<◌, ◌≤◌, ◌^◌, [], Some, refl, sym, ◌∙◌, arith, length-drop, ◌↔◌, inr, List, ◌∷◌, ◌++◌, length, drop, replicate, subst, length-append, ap, ◌⊎◌, nat_cmp}
use Rattle.std.proofs.lemmas.Grind.{common_steps}
use Rattle.std.proofs.lemmas.Option.{none-some}
use Rattle.std.proofs.lemmas.List.{drop_all, length-replicate, drop_at}
use Rattle.std.specs.Cmp.{nat_cmp_total}
use Rattle.std.specs.FinMap.{get, insert, empty, values, get-empty, len-insert, len-empty}
use Rattle.bcast_model.specs.Words.{History, opening, front_number, view_of, IsValid}
use Rattle.bcast_model.specs.Words.{IsValidControl, NoLostWakeUp, View, IsShown, Represents}
use Rattle.bcast_model.specs.Words.{IsValidView, end_number, queue_of}
use Rattle.bcast_model.proofs.Least.{least-le-limit}
use Rattle.bcast_model.proofs.Lift.{same_view}
use Rattle.bcast_model.proofs.Views.{valid_view}
use Rattle.bcast_model.proofs.DeliveryMaps.{got_insert}

-- its only receiver is at the first number
pub cursor_is_first : (key first other cursor : ℕ) → get (insert (empty {R = nat_cmp}) key first) other ≡ Some cursor → cursor ≡ first
cursor_is_first key first other cursor e = elim (got_insert empty key first other cursor e) [ inl f ↦ f.1 | inr f ↦ absurd (none-some cursor (sym (get-empty nat_cmp other) ∙ f)) ]

module _ {T : Type 0} where
  pub opening_valid : (capacity first key : ℕ) → 1 ≤ capacity → capacity < 2 ^ 64 → first + 1 < 2 ^ 64 → IsValid {T = T} (opening capacity first key)
  opening_valid capacity first key some few below =
      let n = len-insert nat_cmp_total empty key first in
      let z = len-empty nat_cmp ℕ in
      let w = get-empty {X = ℕ} nat_cmp key in
      record {
        floor_low = omega arith;
        floor_high = omega arith;
        floor_below = inl refl;
        cursors = λ other cursor e. (let f = cursor_is_first key first other cursor e in (omega arith, omega arith));
        fits = simp length-drop (omega arith);
        control = record {
          capacity = some;
          room = omega arith;
          room_fits = few;
          receivers_fit = grind (arith, common_steps, n, z, w);
          senders_fit = omega arith;
          inactive_fit = omega arith;
          sender = λ _. omega arith;
          receiver = λ _. grind (arith, common_steps, n, z, w);
          end_fits = omega arith;
          open_end = λ _. omega arith;
          lists = record { sends = record { distinct = tt; told = omega arith }; receives = record { distinct = tt; told = omega arith }; places = tt; keys = tt };
        };
        wake_ups = record { receives = tt; sends = λ ready some. absurd (omega arith) };
      }

  -- its view: no message, and the first number as front and as end
  pub view_of-opening : (capacity first key : ℕ) → 1 ≤ capacity → capacity < 2 ^ 64 → first + 1 < 2 ^ 64
      → view_of {T = T} (opening capacity first key) ≡ record { front = first; queue = []; end = first; control = (opening {T = T} capacity first key).control }
  view_of-opening capacity first key some few below =
      let h : History T = opening capacity first key in
      let limit = least-le-limit (first + 0) (values h.control.cursors) in
      same_view _ _ (omega (arith, limit)) (drop_all (front_number h - first) [] (omega arith)) (omega arith) refl

-- ---- each valid view is that of some valid history
module _ {T : Type 0} where
  -- one with these gone messages, from this number on
  witness : (v : View T) (first : ℕ) (gone : List T) → IsValidView v → first + length gone ≡ v.front → ((key cursor : ℕ) → get v.control.cursors key ≡ Some cursor → first ≤ cursor) → (v.front ≡ first) ⊎ (v.front < v.end)
      → (h : History T) × IsValid h × Represents v h
  witness v first gone valid size above below =
      let h : History T = record { first = first; accepted = gone ++ v.queue; floor = v.front; control = v.control } in
      let all = length-append gone v.queue in
      let n : end_number h ≡ v.end = omega (arith, all, size, valid.end) in
      let f : front_number h ≡ v.front = rw n (omega (arith, valid.low, valid.high)) in
      let d : queue_of h ≡ v.queue = ap (λ front. drop (front - first) (gone ++ v.queue)) f ∙ drop_at gone v.queue (v.front - first) (omega (arith, size)) in
      let is : Represents v h = same_view v (view_of h) (sym f) (sym d) (sym n) refl in (
        h,
        record {
          floor_low = omega (arith, size);
          floor_high = omega (arith, n, valid.high);
          floor_below = elim below [ inl e ↦ inl e | inr e ↦ inr (omega (arith, n, e)) ];
          cursors = λ key cursor e. let reach = valid.reach key cursor e in (above key cursor e, omega (arith, n, reach));
          fits = rw d valid.fits;
          control = subst (IsValidControl v.control) (sym n) valid.control;
          wake_ups = subst NoLostWakeUp is valid.wake_ups;
        },
        is,
      )

  -- if no message is kept, the history begins at the front; else those gone copy the oldest one
  view_shown : (v : View T) → IsValidView v → IsShown v
  view_shown v valid = by v.queue refl
    where
      by : (queue : List T) → v.queue ≡ queue → IsShown v
      by [] e = witness v v.front [] valid (omega arith) (λ key cursor is. let past = valid.caught_up key cursor e is in omega (arith, past, valid.high)) (inl refl)
      by (msg ∷ queue) e = let some = ap length e in witness v 0 (replicate v.front msg) valid (omega (arith, length-replicate v.front msg)) (λ key cursor is. omega arith) (inr (omega (arith, some, valid.end)))

  pub views_shown : (v : View T) → IsValidView v ↔ IsShown v
  views_shown v = (view_shown v, λ shown. subst IsValidView (sym shown.2) (valid_view shown.0 shown.1))
