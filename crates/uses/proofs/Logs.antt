-- What the readers of a log are still to read.
use Rattle.std.proofs.Common.{◌≡◌, ℕ, ◌+◌, ◌-◌, ◌≤◌, [], ◌∷◌, ◌++◌, drop, Option, Some, None, Ok, refl, sym, ap, ◌∙◌, subst, arith, append-nil, IsSome}
use Rattle.std.proofs.lemmas.Grind.{common_steps}
use Rattle.std.proofs.lemmas.List.{drop-drop, drop-append-le, drop_all, nil_from_length}
use Rattle.std.proofs.lemmas.Option.{same_Some}
use Rattle.std.specs.FinMap.{get, empty}
use Rattle.bcast_model.specs.declared.run.Call.TheVariants as call
use Rattle.bcast_model.specs.declared.run.Reply.TheVariants as reply
use Rattle.bcast_model.specs.Words.{Control, Listeners, with_cursor, sets, opening, view_of, settle}
use Rattle.bcast_model.specs.Words.{with_message, IsValid, View, Represents, Answers}
use Rattle.bcast_model.proofs.Cases.{accepting_is, close_is}
use Rattle.bcast_model.proofs.Least.{least-le-cursor}
use Rattle.bcast_model.proofs.Views.{valid_view}
use Rattle.bcast_model.proofs.DeliveryMaps.{inserted_other}
use Rattle.bcast_core.proofs.Settle.{inserted, cursors-accepting}
use Rattle.uses.specs.Log.{kept_from, unread, IsReader, IsLog, KeepsReaders, AddsUnread, KeepsUnread}
use Rattle.uses.proofs.Called.{some_of, valid, some_insert, high_insert, put_last}

module _ {T : Type 0} where
  -- ---- `broadcast`
  pub new_log : {v : View T} {capacity : ℕ} (key : ℕ) → Represents v (opening capacity 0 key) → IsValid (opening {T = T} capacity 0 key) → IsReader v key × (unread v key ≡ [])
  new_log {capacity = capacity} key new is_valid =
      let none = (valid_view (opening {T = T} capacity 0 key) is_valid).end in
      grind (arith, common_steps, new, inserted empty key 0, none, nil_from_length {X = T} (view_of (opening {T = T} capacity 0 key)).queue, drop_all)

  -- ---- `try_broadcast`
  pub writes : {is_clone : T → T → Type 0} {v w : View T} {msg : T} {back : Option T} → Answers is_clone v (call.TryBroadcast msg) (reply.TryBroadcast (Ok back)) w → IsLog v → IsLog w × AddsUnread v w msg
  writes {v = v} {msg = msg} a log = put_last a log.overflow (λ u. IsLog u × AddsUnread v u msg) (λ _. (
    record {
      overflow = accepting_is (λ c. c.overflow ≡ v.control.overflow) v.control (v.end + 1) (close_is (λ c. c.overflow ≡ v.control.overflow) _ (λ _. refl) (λ _. refl)) (λ _. refl) ∙ log.overflow;
      reach = λ reader cursor e. log.reach reader cursor (ap (λ m. get m reader) (sym (cursors-accepting v.control (v.end + 1))) ∙ e);
    },
    λ reader is.
        let at = some_of (get v.control.cursors reader) is in
        let end = (valid a).end in
        let reach = (valid a).reach reader at.0 at.1 in
        ap (kept_from (with_message v msg)) (ap (λ m. get m reader) (cursors-accepting v.control (v.end + 1)) ∙ at.1)
        ∙ drop-append-le (at.0 - v.front) v.queue (msg ∷ []) (omega (arith, end, reach)) ∙ sym (ap (λ o. kept_from v o ++ msg ∷ []) at.1),
  ))

  -- ---- a reader that reads next the message of this number
  pub record ReadsFrom (v u : View T) (key number : ℕ) : Type 0 where
    pub log : IsLog u
    pub reader : IsReader u key
    pub own : unread u key ≡ drop (number - v.front) v.queue
    pub others : KeepsUnread v u key
    pub readers : KeepsReaders v u

  -- no message is accepted or dropped
  kept_sets : (v : View T) (c : Control) (o : Option ℕ) → ((n : ℕ) → o ≡ Some n → (v.front ≤ n) × ((settle v (sets c)).front ≤ n)) → kept_from (settle v (sets c)) o ≡ kept_from v o
  kept_sets v c None ahead = refl
  kept_sets v c (Some n) ahead =
      let front : ℕ = (settle v (sets c)).front in
      let at = ahead n refl in
      let sum : (front - v.front) + (n - front) ≡ n - v.front = omega (arith, at.0, at.1) in
      ap (λ q. drop (n - front) (drop (front - v.front) q)) (append-nil v.queue) ∙ drop-drop (n - front) (front - v.front) v.queue ∙ ap (λ k. drop k v.queue) sum

  module _ (v : View T) (key number : ℕ) (sends : Listeners ℕ) (log : IsLog v) (low : v.front ≤ number) where
    abbrev moved : Control
    moved = record (with_cursor v.control key number) { waiting_sends = sends }

    abbrev u : View T
    u = settle v (sets moved)

    own : get u.control.cursors key ≡ Some number
    own = inserted v.control.cursors key number

    high : (reader cursor : ℕ) → get u.control.cursors reader ≡ Some cursor → u.front ≤ cursor
    high reader cursor e =
        let least = least-le-cursor (v.end + 0) u.control.cursors reader cursor e in
        let past = high_insert v.control.cursors key number reader v.front cursor low (log.reach reader) e in
        omega (arith, least, past)

    pub reads_from : ReadsFrom v u key number
    reads_from = record {
      log = record { overflow = log.overflow; reach = high };
      reader = subst IsSome (sym own) refl;
      own = ap (kept_from u) own ∙ kept_sets v moved (Some number) (λ n e. (subst (λ k. v.front ≤ k) (same_Some number n e) low, high key n (own ∙ e)));
      others = λ other differs.
          let stays = inserted_other v.control.cursors key number other differs in
          ap (kept_from u) stays ∙ kept_sets v moved (get v.control.cursors other) (λ n e. (log.reach other n e, high other n (stays ∙ e)));
      readers = λ other is. some_insert v.control.cursors key number other is;
    }
