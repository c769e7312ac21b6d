-- A receiver's calls that are receives, and no other, and what it takes by several of them.
use Rattle.std.proofs.Common.{◌≡◌, ◌⊎◌, inl, inr, ℕ, ◌+◌, ◌<◌, List, [], ◌∷◌, ◌++◌, length, Some, Result, Ok, Err, refl, sym, ap, ◌∙◌, subst, arith}
use Rattle.std.specs.List.{AllByRecursion}
use Rattle.std.specs.declared.alloc.AllocError.{AllocError}
use Rattle.futures.specs.declared.task.Poll.TheVariants as poll
use Rattle.bcast_model.specs.declared.error.RecvError.{RecvError}
use Rattle.bcast_model.specs.declared.error.RecvError.TheVariants as unreceived
use Rattle.bcast_model.specs.declared.error.TryRecvError.TheVariants as unread
use Rattle.bcast_model.specs.declared.run.Call.TheVariants as call
use Rattle.bcast_model.specs.declared.run.Call.{Call}
use Rattle.bcast_model.specs.declared.run.Reply.{Reply}
use Rattle.bcast_model.specs.Words.{Found}
use Rattle.bcast_model.proofs.Lists.{all_append}
use Rattle.bcast_core.specs.Batch.{ReceivesEach, ReceivesInto}
use Rattle.async_broadcast.specs.Batch.{PutsLast}
use Rattle.bcast_history.specs.History.{Opening, Step, IsLawful, end_of}
use Rattle.bcast_history.specs.Batch.{AreDeliveries, TakesInto, TakesMany, received}
use Rattle.bcast_history.specs.Makes.{IsReceive, MakesEach, MakesReceives, PollsOnce, ReceivesBy, ReceivesOnce}
use Rattle.bcast_history.specs.Reader.{Takes, as_found}
use Rattle.bcast_history.specs.Tracker.{IsReceiver, Tracker, Learns, number}
use Rattle.bcast_history.proofs.Prefixes.{prefix_self, prefix_trans}
use Rattle.bcast_history.proofs.Received.{IsPlace, tried}
use Rattle.bcast_history.proofs.Sent.{delivery_stays}

module _ {T : Type 0} (learns : Tracker T → Call T → Reply T → Tracker T → Type 0) where
  both_made : (steps more : List (Step T)) (known between after : Tracker T) → MakesEach learns steps known between
      → MakesEach learns more between after → MakesEach learns (steps ++ more) known after
  both_made [] more known between after first second = subst (λ k. MakesEach learns more k after) first second
  both_made (step ∷ steps) more known between after (next, made, first) second =
      (next, made, both_made steps more next between after first second)

module _ {T : Type 0} {learns : Tracker T → Call T → Reply T → Tracker T → Type 0} where
  -- no receive
  none_made : (old : Tracker T) → MakesReceives learns old old
  none_made old = record { key = refl; seen = prefix_self old.steps; steps = []; receives = tt; each = refl }

  -- receives, and then others by the same receiver
  pub receives_on : {old mid new : Tracker T} → MakesReceives learns old mid → MakesReceives learns mid new → MakesReceives learns old new
  receives_on {old = old} {mid = mid} {new = new} first second = record {
    key = second.key ∙ first.key;
    seen = prefix_trans old.steps mid.steps new.steps first.seen second.seen;
    steps = first.steps ++ second.steps;
    receives = all_append (IsReceive old.key) first.steps second.steps first.receives
        (subst (λ key. AllByRecursion (IsReceive key) second.steps) first.key second.receives);
    each = both_made learns first.steps second.steps old mid new first.each second.each;
  }

  module _ {is_clone : T → T → Type 0} {o : Opening} {old new : Tracker T} where
    -- one receive
    pub receives_one : {c : Call T} {r : Reply T} {found : Found T} → (c ≡ call.TryRecv old.key) ⊎ (c ≡ call.PollRecv old.key)
        → ReceivesBy learns is_clone o c r old new found → MakesReceives learns old new
    receives_one {c = c} {r = r} is by = record {
      key = by.key;
      seen = by.seen;
      steps = record { call = c; reply = r } ∷ [];
      receives = (is, tt);
      each = (new, by.made.once, refl);
    }

    -- a poll that was out of memory, and made, or not
    pub receives_refused : {error : AllocError} {NotMade : Type 0}
        → ((new ≡ old) × NotMade) ⊎ PollsOnce learns is_clone o old new (Err error) → MakesReceives learns old new
    receives_refused (inl same) = subst (MakesReceives learns old) (sym same.0) (none_made old)
    receives_refused (inr by) = receives_one (inr refl) by

-- ---- several receives in one call
-- the tracker is still the receiver's, which read on behind these messages, by receives alone
pub record Taken
    {T : Type 0} (learns : Tracker T → Call T → Reply T → Tracker T → Type 0) (is_clone : T → T → Type 0) (o : Opening)
    (key : ℕ) (known : Tracker T) (given : List T) (after : Tracker T) : Type 0 where
  pub still : IsPlace is_clone o key after
  pub only : MakesReceives learns known after
  pub messages : AreDeliveries is_clone (end_of o after.steps) (number known.next) given
  pub next : number after.next ≡ number known.next + length given

-- `made`: what is known of each call, from which follows what its caller learns
module _
    {T : Type 0} {learns made : Tracker T → Call T → Reply T → Tracker T → Type 0} {is_clone : T → T → Type 0} {o : Opening}
    (law : (k a : Tracker T) (c : Call T) (r : Reply T) → learns k c r a → Learns is_clone o k c r a)
    (learned : (k a : Tracker T) (c : Call T) (r : Reply T) → made k c r a → learns k c r a) (key : ℕ) where
  each_taken : (known after : Tracker T) (given : List T) → IsPlace is_clone o key known → ReceivesEach made key known given after → Taken learns is_clone o key known given after
  each_taken known after [] its each = subst (Taken learns is_clone o key known []) (sym each) (record { still = its; only = none_made known; messages = tt; next = omega arith })
  each_taken known after (msg ∷ given) its each =
      let once = learned _ _ _ _ each.1 in
      let told = law _ _ _ _ once in
      let one = tried is_clone its.0 told in
      let more = each_taken each.0 after given (one.still, told.follows.lawful) each.2 in
      record {
        still = more.still;
        only = receives_on {mid = each.0} (record { key = one.still.0 ∙ sym its.0.0; seen = one.seen; steps = received key msg ∷ []; receives = (inl (ap call.TryRecv (sym its.0.0)), tt); each = (each.0, once, refl) }) more.only;
        messages = (delivery_stays is_clone o each.0.steps after.steps (number known.next) msg more.only.seen one.takes.0, subst (λ n. AreDeliveries is_clone (end_of o after.steps) n given) one.takes.1 more.messages);
        next = omega (arith, more.next, one.takes.1);
      }

-- a batch that was received through a port
pub record Batched
    {T : Type 0} (learns : Tracker T → Call T → Reply T → Tracker T → Type 0) (is_clone : T → T → Type 0) (o : Opening)
    (old : Tracker T) (before : List T) (count : ℕ) (longer : List T) (new : Tracker T) : Type 0 where
  pub reads : IsReceiver new
  pub lawful : IsLawful is_clone o new.steps
  pub only : MakesReceives learns old new
  pub takes : TakesInto is_clone o old before count longer new

pub batched : {T : Type 0} (learns : Tracker T → Call T → Reply T → Tracker T → Type 0) (is_clone : T → T → Type 0) {o : Opening} {key count : ℕ} {known inner old after : Tracker T} {before longer : List T} {Gave : Call T → Reply T → Type 0}
    → known ≡ inner → inner ≡ old → key ≡ known.key → IsReceiver inner → IsLawful is_clone o known.steps → ((k a : Tracker T) (c : Call T) (r : Reply T) → learns k c r a → Learns is_clone o k c r a)
    → ReceivesInto (λ k c r a. Gave c r × learns k c r a) key known before count longer after → Batched learns is_clone o old before count longer after
batched {T} learns is_clone {o = o} {key = key} {known = known} {inner = inner} {old = old} {after = after} {Gave = Gave} view of at reads lawful follows into =
    let is = view ∙ of in
    let its : IsPlace is_clone o key old = subst (IsPlace is_clone o key) is ((sym at, subst IsReceiver (sym view) reads), lawful) in
    let each = subst (λ k. ReceivesEach (λ k c r a. Gave c r × learns k c r a) key k into.given after) is into.each in
    let taken = each_taken {learns = learns} {made = λ k c r a. Gave c r × learns k c r a} follows (λ k a c r both. both.1) key old after into.given its each in
    record {
      reads = taken.still.0.1;
      lawful = taken.still.1;
      only = taken.only;
      takes = record { given = into.given; counted = into.counted; put = into.put; messages = taken.messages; next = taken.next ∙ ap (λ n. number old.next + n) into.counted };
    }

-- or one receive that may wait: its message is put last into the list
pub takes_last : {T E Room : Type 0} (learns : Tracker T → Call T → Reply T → Tracker T → Type 0) (is_clone : T → T → Type 0) (o : Opening) (as_tried : Result (Result T E) AllocError → Found T) {limit : ℕ} {old mid : Tracker T} (new : Tracker T) {before between : List T} (after : List T)
    (spelt : (msg : T) → as_tried (Ok (Ok msg)) ≡ Ok (Ok msg)) (found : Result (Result T E) AllocError) (result : Result (Result ℕ E) AllocError) → (0 < limit) × (mid ≡ old) × (between ≡ before) × Room
    → ReceivesOnce learns is_clone o mid new (as_tried found) → PutsLast found between result after → TakesMany is_clone o (ReceivesOnce learns is_clone o) as_tried limit old before result after new
takes_last learns is_clone o as_tried {limit = limit} {old = old} new {before = before} after spelt (Ok (Ok msg)) result (some, same, items, room) received puts =
    let got = subst (Takes is_clone o old new) (spelt msg) (subst (λ r. Takes is_clone o r new (as_tried (Ok (Ok msg)))) same received.takes) in
    subst (λ r. TakesMany is_clone o (ReceivesOnce learns is_clone o) as_tried limit old before r after new) (sym puts.0)
    (omega arith, λ _. omega arith, record { given = msg ∷ []; counted = refl; put = puts.1 ∙ ap (λ w. w ++ msg ∷ []) items; messages = (got.0, tt); next = got.1 })
takes_last learns is_clone o as_tried {limit = limit} {old = old} new {before = before} after spelt (Ok (Err error)) result (some, same, items, room) received puts =
    subst (λ r. TakesMany is_clone o (ReceivesOnce learns is_clone o) as_tried limit old before r after new) (sym puts.0)
    (puts.1 ∙ items, subst (λ r. ReceivesOnce learns is_clone o r new (as_tried (Ok (Err error)))) same received)
takes_last learns is_clone o as_tried {limit = limit} {old = old} new {before = before} after spelt (Err error) result (some, same, items, room) received puts =
    subst (λ r. TakesMany is_clone o (ReceivesOnce learns is_clone o) as_tried limit old before r after new) (sym puts.0)
    (puts.1 ∙ items, inr (subst (λ r. ReceivesOnce learns is_clone o r new (as_tried (Err error))) same received))

-- a poll that gave no message, for a batch
pub polls_last : {T Room : Type 0} (is_clone : T → T → Type 0) (o : Opening) {limit : ℕ} {old mid : Tracker T} (new : Tracker T) {before between : List T} (error : RecvError)
    → (0 < limit) × (mid ≡ old) × (between ≡ before) × Room → Takes is_clone o mid new (as_found (Ok (poll.Ready (Some (Err error)))))
    → TakesMany is_clone o (Takes is_clone o) (λ tried. tried) limit old before (as_found (Ok (poll.Ready (Some (Err error))))) between new
polls_last is_clone o new (unreceived.Overflowed n) (some, same, items, room) takes = (items, subst (λ r. Takes is_clone o r new (Ok (Err (unread.Overflowed n)))) same takes)
polls_last is_clone o new unreceived.Closed (some, same, items, room) takes = (items, subst (λ r. Takes is_clone o r new (Ok (Err unread.Closed))) same takes)
