-- More steps of one caller are kept, and it learns of them.
use Rattle.std.proofs.Common.{◌≡◌, ℕ, ◌<◌, true, false, Option, Some, None, Ok, Err, refl, List, [], ◌∷◌, ◌++◌, length, map, sym, ◌∙◌, ap, subst, arith, append_assoc, IfSome}
use Rattle.std.proofs.lemmas.Option.{same_Some}
use Rattle.std.specs.Coded.{Coded}
use Rattle.std.specs.List.{AllByRecursion}
use Rattle.bcast_model.specs.declared.run.Call.{Call}
use Rattle.bcast_model.specs.declared.run.Call.TheVariants as call
use Rattle.bcast_model.specs.declared.run.Reply.{Reply}
use Rattle.bcast_model.specs.declared.run.Reply.TheVariants as reply
use Rattle.bcast_model.specs.declared.run.SendPoll.TheVariants as send
use Rattle.bcast_model.specs.declared.error.TryRecvError.TheVariants as unread
use Rattle.bcast_model.specs.Words.{History, View, next, Legal, Answers, Represents, HasPositiveCapacity, cursor_of}
use Rattle.bcast_model.proofs.Lists.{all_append}
use Rattle.bcast_laws.specs.Sends.{is_refused}
use Rattle.bcast_laws.proofs.Refusals.{refused_same}
use Rattle.bcast_history.specs.History.{Opening, Step, IsLawful, Replays, calls_of, end_of}
use Rattle.bcast_history.specs.Batch.{received}
use Rattle.bcast_history.specs.Tracker.{AreCursors, IsOf, Tracker, Learns, next_of}
use Rattle.bcast_core.specs.Batch.{ReceivesEach}
use Rattle.async_broadcast.specs.Ports.{is_answer, moved_by}
use Rattle.claims.specs.Claims.{claim_of, put_changed}
use Rattle.bcast_history.proofs.Claimed.{claimed_there, claims_read_on, next_settles, others_stay}
use Rattle.bcast_history.proofs.Prefixes.{IsPrefix, prefix_self}
use Rattle.bcast_history.proofs.Received.{tried}
use Rattle.bcast_history.proofs.Keeping.{calls_of-more, end_of-more, replays, replays_longer}

-- a caller that moves a receiver moves its own
own_moved : {T : Type 0} (known : Tracker T) (moved : Option ℕ) → IfSome moved (λ key. IsOf key known)
    → (other : ℕ) → IfSome known.next (λ _. other ≡ known.key → ⊥) → moved ≡ Some other → ⊥
own_moved known None own other differs is = absurd (cc is)
own_moved known (Some key) own other differs is =
    let apart : other ≡ known.key → ⊥ = subst (λ next. IfSome next (λ _. other ≡ known.key → ⊥)) own.1 differs in
    apart (sym (own.0 ∙ same_Some key other is))

-- a reply that must wait refuses its call
wait_refuses : {T : Type 0} (r : Reply T) → is_answer r ≡ false → is_refused r ≡ true
wait_refuses (reply.AttemptSend (send.Wait msg)) waits = refl
wait_refuses (reply.TryRecv (Ok (Err unread.Empty))) waits = refl
wait_refuses r waits = absurd (cc waits)

-- who knew this, once it knows these steps
abbrev pub tracker_after : {T : Type 0} → Opening → Tracker T → List (Step T) → Tracker T
tracker_after o known steps =
    record { steps = steps; key = known.key; next = next_of (end_of o steps).control known.key known.next }

-- what is kept after more steps of one caller: a lawful run, which leaves the cursors of all receivers
-- but the one that it moves. `Learned`: what a caller learns who knew a beginning of the steps, and
-- where it read on
pub record Grown
    {T : Type 0} (is_clone : T → T → Type 0) (o : Opening) (moved : Option ℕ) (steps longer : List (Step T)) (after : View T)
    (Learned : Tracker T → Tracker T → Type 0) : Type 0 where
  pub run : Replays is_clone o longer after
  pub lawful : IsLawful is_clone o longer
  pub spares : (other at : ℕ) → (moved ≡ Some other → ⊥)
      → cursor_of (end_of o steps).control other ≡ Some at → cursor_of (end_of o longer).control other ≡ Some at
  pub told : (known : Tracker T) → IsPrefix known.steps steps → known.next ≡ next_of (end_of o steps).control known.key known.next
      → Learned known (tracker_after o known longer)

-- the owner of the receiver `key` learns of a receive for each of these messages
abbrev pub LearnsEach : {T : Type 0} → (T → T → Type 0) → Opening → ℕ → List T → Tracker T → Tracker T → Type 0
LearnsEach is_clone o key given known new = IsOf key known → ReceivesEach (Learns is_clone o) key known given new

module _ {T : Type 0} {is_clone : T → T → Type 0} {o : Opening} where
  -- one more step
  pub grown : {steps now longer : List (Step T)} {before after : View T} (call : Call T) (reply : Reply T)
      → longer ≡ steps ++ record { call = call; reply = reply } ∷ [] → HasPositiveCapacity call
      → Coded T → steps ≡ now → ∥ Represents before (end_of o now) ∥₁ → IsLawful is_clone o steps → Answers is_clone before call reply after
      → Grown is_clone o (moved_by call) steps longer after (λ known new. Learns is_clone o known call reply new)
  grown {steps = steps} {now = now} {longer = longer} call reply pushed positive code is_now shown lawful answers =
      let old = replays steps now code is_now shown lawful in
      let step : Step T = record { call = call; reply = reply } in
      let was = end_of o steps in
      let new = replays_longer pushed old answers in
      let calls : calls_of longer ≡ calls_of steps ++ call ∷ [] = ap calls_of pushed ∙ calls_of-more steps step in
      let is_next : end_of o longer ≡ next was call reply = ap (end_of o) pushed ∙ end_of-more is_clone o steps step old.run in
      let legal = subst (λ v. Legal is_clone v call reply) old.end answers.legal in
      let run : IsLawful is_clone o longer = record {
        start = lawful.start;
        capacities = subst (AllByRecursion HasPositiveCapacity) (sym calls) (all_append HasPositiveCapacity (calls_of steps) (call ∷ []) lawful.capacities (positive, tt));
        run = new.run;
        end = new.valid;
      } in
      record {
        run = new;
        lawful = run;
        spares = λ other at apart is.
            ap (λ (h : History T). cursor_of h.control other) is_next ∙ others_stay is_clone was call reply other at legal apart is;
        told = λ known begins there. record {
          follows = record { before = steps; begins = begins; last = pushed; lawful = run; valid = old.valid; legal = legal; end = is_next };
          there = there;
          key = refl;
          next = refl;
          waits = λ waits.
              ap (λ (h : History T). next_of h.control known.key known.next) (is_next ∙ refused_same is_clone was call reply old.valid legal (wait_refuses reply waits)) ∙ sym there;
        };
      }

  -- a receive for each of these messages, by the receiver `key`
  each_grown : {steps : List (Step T)} {before after : View T} (key : ℕ) (msg : T) (given : List T) → Coded T → ∥ Represents before (end_of o steps) ∥₁ → IsLawful is_clone o steps
      → ReceivesEach (Answers is_clone) key before (msg ∷ given) after
      → Grown is_clone o (Some key) steps (steps ++ map (received key) (msg ∷ given)) after (LearnsEach is_clone o key (msg ∷ given))
  each_grown {steps = steps} key msg [] code shown lawful each =
      let first = steps ++ received key msg ∷ [] in
      let one = grown {longer = first} (call.TryRecv key) (reply.TryRecv (Ok (Ok msg))) refl tt code refl shown lawful each.1 in
      record {
        run = subst (Replays is_clone o first) (sym each.2) one.run;
        lawful = one.lawful;
        spares = one.spares;
        told = λ known begins there its. (tracker_after o known first, one.told known begins there, refl);
      }
  each_grown {steps = steps} {after = after} key msg (second ∷ given) code shown lawful each =
      let first = steps ++ received key msg ∷ [] in
      let one = grown {longer = first} (call.TryRecv key) (reply.TryRecv (Ok (Ok msg))) refl tt code refl shown lawful each.1 in
      let more = each_grown {steps = first} {before = each.0} {after = after} key second given code ∣ one.run.end ∣₁ one.lawful each.2 in
      subst (λ ss. Grown is_clone o (Some key) steps ss after (LearnsEach is_clone o key (msg ∷ second ∷ given))) (append_assoc steps (received key msg ∷ []) (map (received key) (second ∷ given)))
      (record {
        run = more.run;
        lawful = more.lawful;
        spares = λ other at apart is. more.spares other at apart (one.spares other at apart is);
        told = λ known begins there its.
            let between = tracker_after o known first in
            let learned = one.told known begins there in
            let still = (tried is_clone its learned).still in
            let last = first ++ map (received key) (second ∷ given) in
            let reads = next_of (end_of o last).control known.key in
            let rest = more.told between (prefix_self first) (next_settles (end_of o first).control known.key known.next) still in
            (between, learned, subst (λ next. ReceivesEach (Learns is_clone o) key between (second ∷ given) (record { steps = last; key = known.key; next = next })) (ap reads still.1 ∙ sym (ap reads its.1)) rest);
      })

  pub grown_each : {steps now longer : List (Step T)} {before after : View T} (key : ℕ) (given : List T) → 0 < length given
      → longer ≡ steps ++ map (received key) given → Coded T → steps ≡ now → ∥ Represents before (end_of o now) ∥₁ → IsLawful is_clone o steps
      → ReceivesEach (Answers is_clone) key before given after → Grown is_clone o (Some key) steps longer after (LearnsEach is_clone o key given)
  grown_each key [] some appended code is_now shown lawful each = absurd (omega arith)
  grown_each {steps = steps} {before = before} {after = after} key (msg ∷ given) some appended code is_now shown lawful each =
      subst (λ ss. Grown is_clone o (Some key) steps ss after (LearnsEach is_clone o key (msg ∷ given))) (sym appended) (each_grown key msg given code (subst (λ ss. ∥ Represents before (end_of o ss) ∥₁) (sym is_now) shown) lawful each)

  -- once their caller has read on, each claim is where its receiver reads on, and the caller has learned
  pub kept : {moved : Option ℕ} {known new : Tracker T} {steps longer was seen : List (Step T)} {after : View T} {Learned : Tracker T → Tracker T → Type 0} (claims : List (Option ℕ)) {later : List (Option ℕ)}
      → Grown is_clone o moved steps longer after Learned → IfSome moved (λ key. IsOf key known) → AreCursors (end_of o steps).control claims
      → was ≡ known.steps → IsPrefix was steps → seen ≡ longer → IfSome known.next (λ next. claim_of claims known.key ≡ Some next)
      → later ≡ put_changed claims known.key known.next new.next → new ≡ tracker_after o known seen
      → AreCursors (end_of o longer).control later × Learned known new
  kept {moved = moved} {known = known} {new = new} {steps = steps} {longer = longer} {Learned = Learned} claims made own cursors knew begins knows claimed put_so reads =
      let c = (end_of o longer).control in
      let is = reads ∙ ap (tracker_after o known) knows in (
        subst (AreCursors c) (sym (put_so ∙ ap (λ (t : Tracker T). put_changed claims known.key known.next t.next) is))
            (claims_read_on (end_of o steps).control c claims known.key known.next cursors (λ other at differs. made.spares other at (own_moved known moved own other differs))),
        subst (Learned known) (sym is) (made.told known (subst (λ ss. IsPrefix ss steps) knew begins) (claimed_there (end_of o steps).control claims known.key known.next cursors claimed)),
      )
