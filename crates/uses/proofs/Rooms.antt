-- Sends for which there is room, and new receivers, which leave as much room as before.
use Rattle.std.proofs.Common.{◌≡◌, ℕ, ◌+◌, ◌==◌, ◌≤◌, ◌<◌, ◌^◌, true, false, [], ◌∷◌, length, Option, Result, Ok, Err, refl, sym, ap, ◌∙◌, subst, arith, length-append, true≢false, is_ok, ne_eqb, inl, inr, ◌-◌, Bool, drop, List, Some, None, append-nil, length-drop, IsSome}
use Rattle.std.proofs.lemmas.Grind.{common_steps}
use Rattle.std.proofs.lemmas.List.{drop_all}
use Rattle.std.proofs.lemmas.Option.{none-some}
use Rattle.std.specs.FinMap.{empty, len, get}
use Rattle.bcast_model.specs.declared.run.Call.TheVariants as call
use Rattle.bcast_model.specs.declared.run.Reply.TheVariants as reply
use Rattle.bcast_model.specs.declared.error.TrySendError.{TrySendError}
use Rattle.bcast_model.specs.declared.run.Reply.{Reply}
use Rattle.bcast_model.specs.declared.error.HandleError.{HandleError}
use Rattle.bcast_model.specs.Words.{Listeners, has_no_receiver, last_end, opening, view_of}
use Rattle.bcast_model.specs.Words.{try_broadcast_reply, with_message, IsValid, View, Answers}
use Rattle.bcast_model.specs.Words.{Represents, cursor_of, with_cursor, clone_receiver, sets}
use Rattle.bcast_model.specs.Words.{settle, IsMadeFrom}
use Rattle.bcast_model.proofs.Least.{len_some}
use Rattle.bcast_model.proofs.Views.{valid_view}
use Rattle.bcast_model.proofs.Cases.{made_is}
use Rattle.bcast_core.proofs.Settle.{inserted}
use Rattle.uses.specs.Log.{unread, IsReader, KeepsReaders, kept_from, IsFresh, IsLog}
use Rattle.uses.specs.Reading.{HasRoom, IsSent, IsAdded}
use Rattle.uses.proofs.Called.{with_sends, some_of, valid, after, replied, put_last}
use Rattle.uses.proofs.Logs.{new_log, writes, reads_from}

module _ {T : Type 0} where
  -- ---- a new channel
  pub opened : (v : View T) (capacity key : ℕ) → Represents v (opening capacity 0 key) → IsValid (opening {T = T} capacity 0 key) → capacity + 1 < 2 ^ 64 → HasRoom v capacity × IsReader v key × (unread v key ≡ [])
  opened v capacity key new is_valid few =
      let u : View T = view_of (opening capacity 0 key) in
      let view = valid_view (opening {T = T} capacity 0 key) is_valid in
      let high = view.high in
      let end = view.end in
      let some = len_some u.control.cursors key 0 (inserted empty key 0) in
      let has : HasRoom u capacity = record {
        log = record { overflow = refl; reach = λ reader cursor e. omega (arith, high) };
        is_open = refl;
        receivers = ne_eqb (len u.control.cursors) 0 (λ e. omega (arith, some, e));
        room = omega (arith, end);
        numbers = omega (arith, few);
      } in
      let reader = new_log _ new is_valid in
      (subst (λ x. HasRoom x capacity) (sym new) has, reader.0, reader.1)

  -- ---- `try_broadcast`
  none_refused : (v : View T) (msg : T) (count : ℕ) → HasRoom v (count + 1) → is_ok (try_broadcast_reply v msg) ≡ true
  none_refused v msg count has = grind (arith, common_steps, has)

  -- what holds after it, apart from the messages
  record Left (v u : View T) (count : ℕ) : Type 0 where
    is_open : u.control.closed ≡ false
    receivers : has_no_receiver u.control ≡ false
    room : length u.queue + count ≤ u.control.capacity
    numbers : u.end + count + 1 < 2 ^ 64
    readers : KeepsReaders v u

  left : (v : View T) (msg : T) (count : ℕ) (sends : Listeners ℕ) → HasRoom v (count + 1) → Left v (with_sends (with_message v msg) sends) count
  left v msg count sends has =
      let before : ((v.end + 1) == last_end) ≡ false = grind (arith, common_steps, has) in
      grind (arith, common_steps, has, before, length-append v.queue (msg ∷ []))

  pub sent : {is_clone : T → T → Type 0} {v w : View T} {msg : T} (count : ℕ) (r : Result (Option T) (TrySendError T)) → Answers is_clone v (call.TryBroadcast msg) (reply.TryBroadcast r) w → HasRoom v (count + 1) → IsSent v w msg count r
  sent {v = v} {msg = msg} count (Ok back) a has =
      let written = writes a has.log in
      let rest = put_last a has.log.overflow (λ u. Left v u count) (λ sends. left v msg count sends has) in
      record {
        ok = refl;
        room = record { log = written.0; is_open = rest.is_open; receivers = rest.receivers; room = rest.room; numbers = rest.numbers };
        added = written.1;
        readers = rest.readers;
      }
  sent {v = v} {msg = msg} count (Err error) a has = absurd (true≢false (sym (none_refused v msg count has) ∙ ap is_ok (sym (replied a))))

module _ {T : Type 0} where
  -- ---- the key
  is_fresh : (v : View T) (key : ℕ) → get v.control.cursors key ≡ None → IsFresh v key
  is_fresh v key free reader is same =
      let at = some_of (get v.control.cursors key) (subst (λ k. IsSome (get v.control.cursors k)) same is) in
      none-some at.0 (sym free ∙ at.1)

  -- a receiver that is made has a key that no other has
  made_is_fresh : (v : View T) (key : ℕ) (there : Bool) (spelt : Result ℕ HandleError → Reply T) → ((made : Result ℕ HandleError) → spelt made ≡ spelt (Ok key) → made ≡ Ok key) → IsMadeFrom there v.control.cursors spelt (spelt (Ok key)) → IsFresh v key
  made_is_fresh v key there spelt one legal = made_is (λ (r : Reply T). r ≡ spelt (Ok key) → IsFresh v key) there v.control.cursors spelt (spelt (Ok key)) legal
      (λ made free e. let same = one (Ok made) e in is_fresh v key (subst (λ k. get v.control.cursors k ≡ None) (let is : made ≡ key = cc in is) free))
      (λ error e. absurd (let same = one (Err error) e in cc)) refl

  -- ---- a receiver that reads next the message of this number
  added : (v : View T) (key number : ℕ) (sends : Listeners ℕ) (start : List T) → IsLog v → v.front ≤ number → IsFresh v key → drop (number - v.front) v.queue ≡ start
      → IsAdded v (with_sends (settle v (sets (with_cursor v.control key number))) sends) key start
  added v key number sends start log low fresh is =
      let u : View T = settle v (sets (with_cursor v.control key number)) in
      let some = len_some u.control.cursors key number (inserted v.control.cursors key number) in
      let shorter : length u.queue ≤ length v.queue = grind (arith, common_steps, append-nil, length-drop) in
      let reads = reads_from v key number sends log low in
      record {
        log = reads.log;
        fresh = fresh;
        reader = reads.reader;
        starts = reads.own ∙ is;
        others = reads.others;
        readers = reads.readers;
        room = λ count has.
            let room = has.room in
            let numbers = has.numbers in
            record {
              log = reads.log;
              is_open = has.is_open;
              receivers = ne_eqb (len u.control.cursors) 0 (λ e. omega (arith, some, e));
              room = omega (arith, shorter, room);
              numbers = omega (arith, numbers);
            };
      }

  -- ---- `clone_receiver`, `new_receiver`
  pub cloned : {is_clone : T → T → Type 0} {v w : View T} (original key : ℕ) → Answers is_clone v (call.CloneReceiver original) (reply.CloneReceiver (Ok key)) w → IsLog v → IsAdded v w key (unread v original)
  cloned {v = v} {w = w} original key a log = elim a.legal [
    | inl gone ↦ absurd (let e = gone.1 in cc)
    | inr there ↦
        let at = some_of (cursor_of v.control original) there.0 in
        let fresh = made_is_fresh v key _ reply.CloneReceiver (λ made e. cc) a.legal in
        after a (λ u. IsAdded v u key (unread v original))
        (λ sends. subst (λ o. IsAdded v (with_sends (settle v (sets (clone_receiver v.control o (Some key)))) sends) key (unread v original)) (sym at.1)
        (added v key at.0 sends (unread v original) log (log.reach original at.0 at.1) fresh (sym (ap (kept_from v) at.1))))
  ]

  pub made : {is_clone : T → T → Type 0} {v w : View T} (key : ℕ) → Answers is_clone v call.NewReceiver (reply.NewReceiver (Ok key)) w → IsLog v → IsAdded v w key []
  made {v = v} {w = w} key a log =
      let end = (valid a).end in
      let fresh = made_is_fresh v key true reply.NewReceiver (λ made e. cc) (inr (refl, a.legal)) in
      after a (λ u. IsAdded v u key [])
      (λ sends. added v key v.end sends [] log (valid a).high fresh (drop_all (v.end - v.front) v.queue (omega (arith, end))))
