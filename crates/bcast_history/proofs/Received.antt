-- What the receives of a `TrackedReceiver` take.
use Rattle.std.proofs.Common.{◌≡◌, ◌⊎◌, inr, ℕ, Bool, true, false, List, Option, Some, Result, Ok, Err, alloc_error, refl, sym, ap, ◌∙◌, subst, IfOk, IfErr}
use Rattle.std.specs.declared.alloc.AllocError.{AllocError}
use Rattle.futures.specs.declared.task.Poll.{Poll}
use Rattle.bcast_model.specs.declared.error.RecvError.{RecvError}
use Rattle.bcast_model.specs.declared.error.TryRecvError.{TryRecvError}
use Rattle.bcast_model.specs.declared.error.TryRecvError.TheVariants as unread
use Rattle.bcast_model.specs.declared.run.Call.{Call}
use Rattle.bcast_model.specs.declared.run.Call.TheVariants as call
use Rattle.bcast_model.specs.declared.run.Reply.{Reply}
use Rattle.bcast_model.specs.declared.run.Reply.TheVariants as reply
use Rattle.bcast_model.specs.Words.{Found, History, next, view_of, cursor_of, Control, Pair, stream_of, receive, listens, sets, stream_reply, worded, try_recv_reply, is_empty_reply}
use Rattle.bcast_history.specs.History.{Opening, Step, Follows, IsLawful, end_of}
use Rattle.bcast_history.specs.Reader.{Finds, StaysAt, Takes, as_found}
use Rattle.bcast_history.specs.Tracker.{Tracker, IsOf, IsReceiver, Learns, next_of, number}
use Rattle.bcast_history.proofs.Found.{Shows, FoundAt, finds}
use Rattle.bcast_history.proofs.Prefixes.{IsPrefix, prefix_trans}

module _ {T : Type 0} where
  -- there it read on before a call
  pub read_there : {is_clone : T → T → Type 0} {o : Opening} {key : ℕ} {known after : Tracker T} {c : Call T} {r : Reply T}
      → IsOf key known → (learned : Learns is_clone o known c r after)
      → cursor_of (end_of o learned.follows.before).control key ≡ Some (number known.next)
  read_there {o = o} {known = known} its learned =
      let c = (end_of o learned.follows.before).control in
      ap (cursor_of c) (sym its.0) ∙ sym (learned.there ∙ ap (next_of c known.key) its.1) ∙ its.1

  -- and here it reads on after it
  pub reads_on : {is_clone : T → T → Type 0} {o : Opening} {key now : ℕ} {known after : Tracker T} {c : Call T} {r : Reply T}
      → IsOf key known → (learned : Learns is_clone o known c r after)
      → cursor_of (next (end_of o learned.follows.before) c r).control key ≡ Some now → after.next ≡ Some now
  reads_on {o = o} {key = key} {known = known} {after = after} its learned at =
      let c = (end_of o after.steps).control in
      learned.next ∙ ap (next_of c known.key) its.1 ∙ ap (cursor_of c) its.0
      ∙ ap (λ (h : History T). cursor_of h.control key) learned.follows.end ∙ at

  pub reads_there : {now : ℕ} (t : Tracker T) → t.next ≡ Some now → IsReceiver t
  reads_there t at = at ∙ ap (λ n. Some (number n)) (sym at)

  pub seen : {is_clone : T → T → Type 0} {o : Opening} {known after : List (Step T)} {c : Call T} {r : Reply T}
      → Follows is_clone o known c r after → IsPrefix known after
  seen {known = known} {after = after} f = prefix_trans known f.before after f.begins (_, sym f.last)

-- ---- a `try_recv`, and a poll of a stream, as receives
abbrev pub Polled : Type 0 → Type 0
Polled T = Result (Poll (Option (Result T RecvError))) AllocError

module _ {T : Type 0} where
  abbrev tried_in : Reply T → Found T
  tried_in (reply.TryRecv found) = found
  tried_in other = Err alloc_error

  abbrev polled_in : Reply T → Found T
  polled_in (reply.PollRecv p) = as_found p
  polled_in other = Err alloc_error

  found_back : (answer : Result T TryRecvError) → as_found (Ok (stream_reply answer)) ≡ Ok answer
  found_back (Ok msg) = refl
  found_back (Err (unread.Overflowed n)) = refl
  found_back (Err unread.Empty) = refl
  found_back (Err unread.Closed) = refl

  listened : (c : Control) (pair : Pair) (waits : Bool) → Shows {T = T} (sets (listens c pair waits)) c
  listened c pair true = (refl, refl, refl)
  listened c pair false = (refl, refl, refl)

-- the tracker is the receiver's, and what it knows is a run
abbrev pub IsPlace : {T : Type 0} → (T → T → Type 0) → Opening → ℕ → Tracker T → Type 0
IsPlace is_clone o key t = IsOf key t × IsLawful is_clone o t.steps

-- a receive that was made
pub record Received
    {T : Type 0} (is_clone : T → T → Type 0) (o : Opening) (key : ℕ) (known after : Tracker T)
    (found : Found T) : Type 0 where
  pub still : IsOf key after
  pub seen : IsPrefix known.steps after.steps
  pub takes : Takes is_clone o known after found

-- a call that leaves the receiver where it is
pub record Stays {T : Type 0} (known after : Tracker T) : Type 0 where
  pub still : IsReceiver after
  pub same : StaysAt known after

module _
    {T : Type 0} (is_clone : T → T → Type 0) {o : Opening} {key : ℕ} {known after : Tracker T}
    (its : IsOf key known) where
  received : {c : Call T} {r : Reply T} (found : Found T) (learned : Learns is_clone o known c r after)
      → FoundAt is_clone (end_of o learned.follows.before) key c r (number known.next) found → Received is_clone o key known after found
  received found learned (now, at, finds_so) =
      let on = reads_on its learned at in record {
        still = (learned.key ∙ its.0, reads_there after on);
        seen = seen learned.follows;
        takes = subst (λ key. Finds is_clone (end_of o after.steps) key (number known.next) (number after.next) found) (sym its.0)
            (subst (λ now. Finds is_clone (end_of o after.steps) key (number known.next) now found) (sym (ap number on))
            (subst (λ h. Finds is_clone h key (number known.next) now found) (sym learned.follows.end) finds_so));
      }

  pub tried : {r : Found T} → Learns is_clone o known (call.TryRecv key) (reply.TryRecv r) after
      → Received is_clone o key known after r
  tried {r = r} learned =
      let f = learned.follows in
      received r learned (finds is_clone (end_of o f.before) key (number known.next) (call.TryRecv key) f.valid (read_there its learned)
      reply.TryRecv tried_in (λ _. refl) refl (λ _. (refl, refl, refl)) (refl, refl, refl) (reply.TryRecv r) f.legal)

  pub polled : {p : Polled T} → Learns is_clone o known (call.PollRecv key) (reply.PollRecv p) after
      → Received is_clone o key known after (as_found p)
  polled {p = p} learned =
      let f = learned.follows in
      let v = view_of (end_of o f.before) in
      let cursor = cursor_of v.control key in
      received (as_found p) learned (finds is_clone (end_of o f.before) key (number known.next) (call.PollRecv key) f.valid (read_there its learned)
      (worded reply.PollRecv stream_reply) polled_in found_back refl (λ answer. listened (receive v key cursor) (stream_of key) (is_empty_reply (try_recv_reply v cursor))) (refl, refl, refl) (reply.PollRecv p) f.legal)

  pub stays : {c : Call T} {r : Reply T} (learned : Learns is_clone o known c r after)
      → cursor_of (next (end_of o learned.follows.before) c r).control key ≡ Some (number known.next) → Stays known after
  stays learned at =
      let on = reads_on its learned at in
      record { still = reads_there after on; same = (learned.key, on ∙ sym its.1) }

-- what holds of a result, by its case
module _ {X E : Type 0} (P : Result X E → Type 0) where
  pub if_ok : (p : Result X E) → P p → IfOk p (λ x. P (Ok x))
  if_ok (Ok x) is = is
  if_ok (Err e) is = tt

  pub if_err : (Other : Type 0) (p : Result X E) → P p → IfErr p (λ e. Other ⊎ P (Err e))
  if_err Other (Ok x) is = tt
  if_err Other (Err e) is = inr is
