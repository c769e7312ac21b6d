-- Each step of a call that accepts no message keeps the channel valid.
use Rattle.std.proofs.Common.{◌≡◌, inl, inr, ℕ, ◌+◌, ◌^◌, ◌<◌, ◌≤◌, Bool, true, false, length, Some, refl, sym, subst, arith, length-append, length-drop}
use Rattle.std.proofs.lemmas.Grind.{common_steps}
use Rattle.std.specs.FinMap.{get, insert, len}
use Rattle.bcast_model.specs.Words.{Listeners, Pair, Control, Places, close, close_if_deserted}
use Rattle.bcast_model.specs.Words.{with_cursor, View, sets, IsValidView}
use Rattle.bcast_model.proofs.Least.{len_insert}
use Rattle.bcast_model.proofs.Cases.{close_is, deserted_is}
use Rattle.bcast_model.proofs.Lists.{all_dropped}
use Rattle.bcast_model.proofs.Waiting.{HasPlace, AreSends, AreReceives}
use Rattle.bcast_model.proofs.Sound.{IsAttended, attended_closed, IsNoLower, IsSound, IsKept, sound_closing, sound_cursor, sound_receives, sound_sends, sound_counts}
use Rattle.bcast_model.proofs.Lift.{KeepsValid}

module _ {T : Type 0} (v : View T) (c : Control) where
  pub kept_close : IsSound v v.end c → length v.queue ≤ c.capacity → IsKept v (close c)
  kept_close s fits = close_is (IsKept v) c
      (λ e. record { sound = s; attended = attended_closed c.closed c.senders (len c.cursors) c.inactive v.end e; fits = fits })
      (λ _. record { sound = sound_closing v v.end c s; attended = attended_closed true c.senders (len c.cursors) c.inactive v.end refl; fits = fits })

  pub kept_deserted : IsSound v v.end c → length v.queue ≤ c.capacity → (c.closed ≡ false → v.end + 1 < 2 ^ 64) → IsKept v (close_if_deserted c)
  kept_deserted s fits open_end = deserted_is (IsKept v) c (kept_close s fits) (λ e. record {
    sound = s;
    attended = record { sender = λ _. grind (arith, common_steps, e); receiver = λ _. grind (arith, common_steps, e); open_end = open_end };
    fits = fits;
  })

  -- ---- the lists of listeners
  pub kept_receives : (l : Listeners Pair) → AreReceives c.cursors c.closed v.end l → IsKept v c → IsKept v (record c { waiting_receives = l })
  kept_receives l r kept = record { sound = sound_receives v v.end c l r kept.sound; attended = kept.attended; fits = kept.fits }

  pub kept_sends : (l : Listeners ℕ) (places : Places) → AreSends places l → IsKept v c → IsKept v (record c { waiting_sends = l; places = places })
  kept_sends l places w kept = record { sound = sound_sends v v.end c l places w kept.sound; attended = kept.attended; fits = kept.fits }

  -- ---- cursors
  -- a receiver that moves to this message had not read all, or is new
  pub kept_cursor : (key cursor : ℕ) → cursor ≤ v.end → IsNoLower v cursor → (get c.cursors key ≡ Some v.end → ⊥) → len (insert c.cursors key cursor) < 2 ^ 64 → IsKept v c → IsKept v (with_cursor c key cursor)
  kept_cursor key cursor high low apart few kept = record {
    sound = sound_cursor v v.end c key cursor high low apart few kept.sound;
    attended = record { sender = kept.attended.sender; receiver = λ _. (let n = len_insert c.cursors key cursor in omega arith); open_end = kept.attended.open_end };
    fits = kept.fits;
  }

  -- ---- counts
  pub kept_counts : (senders inactive : ℕ) (overflow await_active : Bool) → senders < 2 ^ 64 → inactive < 2 ^ 64 → (c.closed ≡ false → 1 ≤ senders) → (c.closed ≡ false → 1 ≤ len c.cursors + inactive) → IsKept v c
      → IsKept v (record c { senders = senders; inactive = inactive; overflow = overflow; await_active = await_active })
  kept_counts senders inactive overflow await_active few less sender receiver kept =
      let sizes = kept.sound.sizes in
      record {
        sound = sound_counts v v.end c c.capacity c.room senders inactive overflow await_active
            (record { positive = sizes.positive; within = sizes.within; room_fits = sizes.room_fits; receivers_fit = sizes.receivers_fit; senders_fit = few; inactive_fit = less; end_fits = sizes.end_fits }) kept.sound;
        attended = record { sender = sender; receiver = receiver; open_end = kept.attended.open_end };
        fits = kept.fits;
      }

module _ {T : Type 0} where
  -- a call that changes only the control
  pub keeps_sets : {v : View T} {c : Control} → IsKept v c → KeepsValid v (sets c)
  keeps_sets {v = v} {c = c} kept =
      let e : v.end + 0 ≡ v.end = omega arith in
      record {
        floor = inl refl;
        fits = simp (length-drop, length-append) (omega (arith, kept.fits));
        sound = subst (λ n. IsSound v n c) (sym e) kept.sound;
        attended = subst (IsAttended c.closed c.senders (len c.cursors) c.inactive) (sym e) kept.attended;
      }

module _ {T : Type 0} (v : View T) (valid : IsValidView v) where
  pub kept_idle : IsKept v v.control
  kept_idle = let l = valid.control in record {
    sound = record {
      cursors = λ key cursor e. (valid.reach key cursor e, inr (key, cursor, e, omega arith));
      sizes = record { positive = l.capacity; within = l.room; room_fits = l.room_fits; receivers_fit = l.receivers_fit; senders_fit = l.senders_fit; inactive_fit = l.inactive_fit; end_fits = l.end_fits };
      sends = record { in_order = l.lists.sends; listed = l.lists.places; untold = all_dropped (HasPlace v.control.places) v.control.waiting_sends.told v.control.waiting_sends.ids l.lists.places };
      receives = record { in_order = l.lists.receives; listed = l.lists.keys; untold = valid.wake_ups.receives };
    };
    attended = record { sender = l.sender; receiver = l.receiver; open_end = l.open_end };
    fits = valid.fits;
  }
