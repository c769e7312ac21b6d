-- What holds of the control, in parts that the steps of a call keep one by one.
use Rattle.std.proofs.Common.{◌≡◌, ◌⊎◌, inl, inr, ℕ, ◌+◌, ◌^◌, ◌<◌, ◌≤◌, Bool, true, false, length, Some, sym, ◌∙◌, subst, arith}
use Rattle.std.proofs.lemmas.Grind.{common_steps}
use Rattle.std.proofs.lemmas.Option.{none-some}
use Rattle.std.specs.Cmp.{nat_cmp_total}
use Rattle.std.specs.FinMap.{get, insert, remove, len, len-remove}
use Rattle.bcast_model.specs.Words.{Listeners, Pair, Control, Places, closing, close, with_cursor}
use Rattle.bcast_model.specs.Words.{without_receiver, View, same_place, same_pair}
use Rattle.bcast_model.proofs.Cases.{close_is}
use Rattle.bcast_model.proofs.DeliveryMaps.{got_insert, got_remove}
use Rattle.bcast_model.proofs.Listeners.{fit_all_told}
use Rattle.bcast_model.proofs.Waiting.{test_place, test_pair, AreSends, AreReceives, receives_moved, receives_without}

-- counts and settings fit
pub record AreSizes (capacity room receivers senders inactive end : ℕ) : Type 0 where
  pub positive : 1 ≤ capacity
  pub within : capacity ≤ room
  pub room_fits : room < 2 ^ 64
  pub receivers_fit : receivers < 2 ^ 64
  pub senders_fit : senders < 2 ^ 64
  pub inactive_fit : inactive < 2 ^ 64
  pub end_fits : end < 2 ^ 64

-- an open channel has a handle on each side, and a number is left for the next message
pub record IsAttended (closed : Bool) (senders receivers inactive end : ℕ) : Type 0 where
  pub sender : closed ≡ false → 1 ≤ senders
  pub receiver : closed ≡ false → 1 ≤ receivers + inactive
  pub open_end : closed ≡ false → end + 1 < 2 ^ 64

-- a closed one needs no more
pub attended_closed : (closed : Bool) (senders receivers inactive end : ℕ) → closed ≡ true → IsAttended closed senders receivers inactive end
attended_closed closed senders receivers inactive end c = record { sender = λ e. cc; receiver = λ e. cc; open_end = λ e. cc }

-- a cursor that is at the front or after it, or not under another one
abbrev pub IsNoLower : {T : Type 0} → View T → ℕ → Type 0
IsNoLower v cursor = (v.front ≤ cursor) ⊎ ((key : ℕ) × (old : ℕ) × (get v.control.cursors key ≡ Some old) × (old ≤ cursor))

-- what every step of a call keeps, if this was the view before the call and the end is this
pub record IsSound {T : Type 0} (v : View T) (end : ℕ) (c : Control) : Type 0 where
  pub cursors : (key cursor : ℕ) → get c.cursors key ≡ Some cursor → (cursor ≤ end) × IsNoLower v cursor
  pub sizes : AreSizes c.capacity c.room (len c.cursors) c.senders c.inactive end
  pub sends : AreSends c.places c.waiting_sends
  pub receives : AreReceives c.cursors c.closed end c.waiting_receives

-- what every call that accepts no message keeps
pub record IsKept {T : Type 0} (v : View T) (c : Control) : Type 0 where
  pub sound : IsSound v v.end c
  pub attended : IsAttended c.closed c.senders (len c.cursors) c.inactive v.end
  pub fits : length v.queue ≤ c.capacity

module _ {T : Type 0} (v : View T) (end : ℕ) (c : Control) where
  -- ---- closing
  pub sound_closing : IsSound v end c → IsSound v end (closing c)
  sound_closing s = record {
    cursors = s.cursors;
    sizes = s.sizes;
    sends = fit_all_told same_place test_place c.waiting_sends s.sends;
    receives = fit_all_told same_pair test_pair c.waiting_receives s.receives;
  }

  pub sound_close : IsSound v end c → IsSound v end (close c)
  sound_close s = close_is (IsSound v end) c (λ _. s) (λ _. sound_closing s)

  -- ---- cursors
  pub sound_cursor : (key cursor : ℕ) → cursor ≤ end → IsNoLower v cursor → (get c.cursors key ≡ Some end → ⊥) → len (insert c.cursors key cursor) < 2 ^ 64 → IsSound v end c → IsSound v end (with_cursor c key cursor)
  sound_cursor key cursor high low apart few s = record {
    cursors = λ other at e. elim (got_insert c.cursors key cursor other at e) [ inl f ↦ subst (λ n. (n ≤ end) × IsNoLower v n) (sym f.1) (high, low) | inr f ↦ s.cursors other at f ];
    sizes = record { positive = s.sizes.positive; within = s.sizes.within; room_fits = s.sizes.room_fits; receivers_fit = few; senders_fit = s.sizes.senders_fit; inactive_fit = s.sizes.inactive_fit; end_fits = s.sizes.end_fits };
    sends = s.sends;
    receives = receives_moved c.cursors c.closed end c.waiting_receives key cursor apart s.receives;
  }

  pub sound_without : (key : ℕ) → IsSound v end c → IsSound v end (without_receiver c key)
  sound_without key s =
      let n = len-remove nat_cmp_total c.cursors key in
      let fewer : len (remove c.cursors key) ≤ len c.cursors = grind (arith, common_steps, n) in
      record {
        cursors = λ other at e. elim (got_remove c.cursors key other) [ inl f ↦ s.cursors other at (sym f ∙ e) | inr f ↦ absurd (none-some at (sym f ∙ e)) ];
        sizes = record { positive = s.sizes.positive; within = s.sizes.within; room_fits = s.sizes.room_fits; receivers_fit = omega (arith, s.sizes.receivers_fit); senders_fit = s.sizes.senders_fit; inactive_fit = s.sizes.inactive_fit; end_fits = s.sizes.end_fits };
        sends = s.sends;
        receives = receives_without c.cursors c.closed end c.waiting_receives key s.receives;
      }

  -- ---- the lists of listeners
  pub sound_receives : (l : Listeners Pair) → AreReceives c.cursors c.closed end l → IsSound v end c → IsSound v end (record c { waiting_receives = l })
  sound_receives l r s = record { cursors = s.cursors; sizes = s.sizes; sends = s.sends; receives = r }

  pub sound_sends : (l : Listeners ℕ) (places : Places) → AreSends places l → IsSound v end c → IsSound v end (record c { waiting_sends = l; places = places })
  sound_sends l places w s = record { cursors = s.cursors; sizes = s.sizes; sends = w; receives = s.receives }

  -- ---- other settings and counts
  pub sound_counts : (capacity room senders inactive : ℕ) (overflow await_active : Bool) → AreSizes capacity room (len c.cursors) senders inactive end → IsSound v end c
      → IsSound v end (record c { capacity = capacity; room = room; senders = senders; inactive = inactive; overflow = overflow; await_active = await_active })
  sound_counts capacity room senders inactive overflow await_active sizes s = record { cursors = s.cursors; sizes = sizes; sends = s.sends; receives = s.receives }
