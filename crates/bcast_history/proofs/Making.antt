-- Receivers that are made, that leave, and that stay.
use Rattle.std.proofs.Common.{◌≡◌, ℕ, ◌+◌, true, false, List, length, Some, refl, Result, Ok, Err, sym, ap, ◌∙◌, subst, IfOk, IfErr}
use Rattle.bcast_model.specs.declared.error.HandleError.{HandleError}
use Rattle.bcast_model.specs.declared.run.Call.{Call}
use Rattle.bcast_model.specs.declared.run.Call.TheVariants as call
use Rattle.bcast_model.specs.declared.run.Reply.{Reply}
use Rattle.bcast_model.specs.declared.run.Reply.TheVariants as reply
use Rattle.bcast_model.specs.Words.{Found, History, cursor_of, end_number}
use Rattle.bcast_history.specs.History.{Opening, Step, Follows, IsLawful, end_of}
use Rattle.bcast_history.specs.Makes.{MakesCall, PollsOnce, ReceivesBy, ReceivesOnce}
use Rattle.bcast_history.specs.Tracker.{Tracker, Begins, IsOf, IsReceiver, Learns, number}
use Rattle.async_broadcast.specs.Ports.{moved_by}
use Rattle.bcast_core.specs.declared.calls.handles.AddReceiver.{AddReceiver}
use Rattle.bcast_core.specs.declared.calls.handles.AddReceiver.TheVariants as receiver
use Rattle.bcast_core.specs.Calls.{receiver_call, receiver_reply}
use Rattle.bcast_laws.specs.Sends.{is_accepted}
use Rattle.bcast_laws.proofs.Refusals.{refused_same}
use Rattle.bcast_laws.proofs.Sends.{nothing_added}
use Rattle.bcast_model.proofs.Cases.{close_is}
use Rattle.bcast_history.proofs.Found.{closed_after}
use Rattle.bcast_history.proofs.Received.{Polled, Received, Stays, polled, read_there, stays, tried}
use Rattle.bcast_history.proofs.Claimed.{others_stay}
use Rattle.bcast_history.proofs.Added.{added, starts_at}

module _ {T : Type 0} {is_clone : T → T → Type 0} {o : Opening} where
  -- a receiver that was added reads on where it starts
  pub added_there : {known after : List (Step T)} (key : ℕ) (c : AddReceiver) (made : Follows is_clone o known (receiver_call c) (receiver_reply c (Ok key)) after)
      → cursor_of (end_of o after).control key ≡ starts_at (end_of o made.before) c
  added_there key c made =
      let new = added is_clone (end_of o made.before) key c made.legal in
      ap (λ (h : History T). cursor_of h.control key) made.end ∙ new.there ∙ sym new.start

  -- which is the end, if it is no clone
  pub last_there : {known after : List (Step T)} (key : ℕ) (c : AddReceiver) (made : Follows is_clone o known (receiver_call c) (receiver_reply c (Ok key)) after)
      → is_accepted (receiver_reply {T = T} c (Ok key)) ≡ false → starts_at (end_of o made.before) c ≡ Some (end_number (end_of o made.before))
      → cursor_of (end_of o after).control key ≡ Some (end_number (end_of o after))
  last_there key c made unsent last =
      let h = end_of o made.before in
      let same = nothing_added is_clone h (receiver_call c) (receiver_reply c (Ok key)) made.legal unsent in
      added_there key c made ∙ last ∙ ap Some (sym (ap end_number made.end ∙ ap (λ (msgs : List T). h.first + length msgs) same))

  -- a channel that was closed is so
  pub closes : {known after : List (Step T)} {r : Reply T} → Follows is_clone o known call.Close r after
      → (end_of o after).control.closed ≡ true
  closes {r = r} made =
      let h = end_of o made.before in
      ap (λ (h : History T). h.control.closed) made.end ∙ closed_after h call.Close r
      ∙ close_is (λ c. c.closed ≡ true) h.control (λ is. is) (λ _. refl)

-- ---- who makes the calls of a receiver that was added
module _ {T : Type 0} {o : Opening} {key : ℕ} {maker made : Tracker T} (begins : Begins o key maker made) where
  pub begun_last : cursor_of (end_of o maker.steps).control key ≡ Some (end_number (end_of o maker.steps)) → made.next ≡ Some (end_number (end_of o made.steps))
  begun_last there = begins.next ∙ there ∙ ap (λ steps. Some (end_number (end_of o steps))) (sym begins.steps)

its_of : {T : Type 0} {key : ℕ} {known old : Tracker T} → known ≡ old → key ≡ known.key → IsReceiver known → IsOf key old
its_of {key = key} is at reads = subst (IsOf key) is (sym at, reads)

-- ---- calls of a receiver, which are made through a port of this law
module _
    {T : Type 0} {is_clone : T → T → Type 0} {o : Opening} {learns : Tracker T → Call T → Reply T → Tracker T → Type 0}
    (law : (before after : Tracker T) (c : Call T) (r : Reply T) → learns before c r after → Learns is_clone o before c r after) where
  pub makes : {known after : Tracker T} {c : Call T} {r : Reply T} → learns known c r after → MakesCall learns is_clone o known c r after
  makes learned = record { once = learned; follows = (law _ _ _ _ learned).follows }

  pub makes_by : {known old after : Tracker T} {c : Call T} {r : Reply T} → known ≡ old → learns known c r after → MakesCall learns is_clone o old c r after
  makes_by {after = after} {c = c} {r = r} is learned = subst (λ old. MakesCall learns is_clone o old c r after) is (makes learned)

  -- `is`: what is seen of the receiver's tracker
  module _ {key : ℕ} {known old after : Tracker T} (is : known ≡ old) (at : key ≡ known.key) (reads : IsReceiver known) where
    -- a call that names the receiver by its key
    pub by_key : (call_of : ℕ → Call T) {r : Reply T} → MakesCall learns is_clone o known (call_of key) r after
        → MakesCall learns is_clone o old (call_of old.key) r after
    by_key call_of {r = r} made =
        subst (λ key. MakesCall learns is_clone o old (call_of key) r after) (sym (its_of is at reads).0)
        (subst (λ k. MakesCall learns is_clone o k (call_of key) r after) is made)

    by_call : (call_of : ℕ → Call T) {r : Reply T} {found : Found T} → Received is_clone o key old after found → learns known (call_of key) r after
        → IsReceiver after × ReceivesBy learns is_clone o (call_of old.key) r old after found
    by_call call_of got learned = (
      got.still.1,
      record {
        key = got.still.0 ∙ sym (its_of is at reads).0;
        seen = got.seen;
        takes = got.takes;
        made = by_key call_of (makes learned);
      },
    )

    -- a receive
    pub receives : {found : Found T} → learns known (call.TryRecv key) (reply.TryRecv found) after
        → IsReceiver after × ReceivesOnce learns is_clone o old after found
    receives learned = by_call call.TryRecv (tried is_clone (its_of is at reads) (law _ _ _ _ (makes_by is learned).once)) learned

    -- a poll
    pub polls : {p : Polled T} → learns known (call.PollRecv key) (reply.PollRecv p) after
        → IsReceiver after × PollsOnce learns is_clone o old after p
    polls learned = by_call call.PollRecv (polled is_clone (its_of is at reads) (law _ _ _ _ (makes_by is learned).once)) learned

  -- one that was made, or wasn't, leaves it a receiver
  pub poll_stays : {C : Type 0} {key : ℕ} {known : Tracker T} (after : Tracker T) → key ≡ known.key → IsReceiver known → IsLawful is_clone o known.steps
      → (X : C → Type 0) (p : Result (Polled T) C) → IfOk p (λ answer. learns known (call.PollRecv key) (reply.PollRecv answer) after)
      → IfErr p (λ back. X back × (after ≡ known)) → IsReceiver after × IsLawful is_clone o after.steps
  poll_stays after at reads lawful X (Ok answer) learned back = let polled = polls refl at reads learned in (polled.0, polled.1.made.follows.lawful)
  poll_stays after at reads lawful X (Err call) learned back =
      subst (λ t. IsReceiver t × IsLawful is_clone o t.steps) (sym back.1) (reads, lawful)

  module _ {key : ℕ} {known old after : Tracker T} (is : known ≡ old) (at : key ≡ known.key) (reads : IsReceiver known) where
    -- it stays where it is by a call that moves none
    pub stays_by : {c : Call T} {r : Reply T} → (moved_by c ≡ Some key → ⊥) → MakesCall learns is_clone o known c r after → Stays old after
    stays_by {c = c} {r = r} apart made =
        let its : IsOf key known = (sym at, reads) in
        let learned = law _ _ _ _ made.once in
        let f = learned.follows in
        subst (λ k. Stays k after) is (stays is_clone its learned (others_stay is_clone (end_of o f.before) c r key (number known.next) f.legal apart (read_there its learned)))

    -- as by one that makes another receiver, or is refused
    pub adder_stays : (p : Result (Tracker T) HandleError)
        → IfOk p (λ made. MakesCall learns is_clone o known (call.CloneReceiver key) (reply.CloneReceiver (Ok made.key)) after)
        → IfErr p (λ error. MakesCall learns is_clone o known (call.CloneReceiver key) (reply.CloneReceiver (Err error)) after) → Stays old after
    adder_stays (Ok made) ok err = stays_by (λ none. absurd (cc none)) ok
    adder_stays (Err error) ok err = stays_by (λ none. absurd (cc none)) err

    -- a clone reads on where it does
    pub clone_starts : {made : Tracker T} → MakesCall learns is_clone o known (call.CloneReceiver key) (reply.CloneReceiver (Ok made.key)) after
        → Begins o made.key after made → made.next ≡ old.next
    clone_starts call_made begins =
        let learned = law _ _ _ _ call_made.once in
        begins.next ∙ added_there _ (receiver.Clone key) learned.follows ∙ read_there (sym at, reads) learned ∙ sym reads ∙ ap (λ (t : Tracker T). t.next) is

    -- it stays if it can't leave
    pub leaves_not : {error : HandleError} → MakesCall learns is_clone o known (call.Deactivate key) (reply.Deactivate (Err error)) after → Stays old after
    leaves_not {error = error} made =
        let its : IsOf key known = (sym at, reads) in
        let learned = law _ _ _ _ made.once in
        let f = learned.follows in
        subst (λ k. Stays k after) is (stays is_clone its learned (ap (λ (h : History T). cursor_of h.control key) (refused_same is_clone (end_of o f.before) (call.Deactivate key) (reply.Deactivate (Err error)) f.valid f.legal refl) ∙ read_there its learned))
