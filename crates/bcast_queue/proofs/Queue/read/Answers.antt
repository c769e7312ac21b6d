-- A message that one reader owes is the first, and leaves; if several owe it, a clone is given.
use Rattle.std.proofs.Common.{Result, Ok, Err, OnErr, ◌≡◌, ◌<◌, Some, ap, ◌∙◌, sym, get_or, slice_get, map, set, sum, ◌+◌, refl, arith, rules}
use Rattle.std.proofs.lemmas.Grind.{common_steps}
use Rattle.std.specs.Option.{option_copied_mut}
use Rattle.std.proofs.lemmas.Option.{slice_get_within}
use Rattle.std.proofs.lemmas.Result.{IfOk-from_err}
use Rattle.bcast_queue.specs.Queue.{one_more_from, without}
use Rattle.bcast_queue.specs.Entries.{queue_of, next_of, message_of, owed_by}
use Rattle.bcast_queue.proofs.Entries.{looked_at, fewer, one_fewer, next_at, messages-set, same_ring, sound-same, taken}
use Rattle.bcast_queue.proofs.Owed.{at_least}
use Rattle.bcast_queue.proofs.Queues.{IsQueue-seen, reader_at, message_at, owed_first, owed_more}
use Rattle.bcast_queue.proofs.Reading.{MovesOn, sound-moved, seen-moved, passed_one, read_several}
use Rattle.bcast_queue.proofs.Queue.read.Goals as goal
use Rattle.bcast_queue.proofs.Queue.read.Goals.{Then-next-eq1, After-clone, After-change, After-add_readers, else-index-eq0-via-then-index-eq0+else-next-eq1, else-index-eq0-via-else-index-eq0}

pub change-next-requires-clause-fits : goal.change-next-requires-clause-fits
change-next-requires-clause-fits g c =
    let counted = next_at c.self.inside.ring.items c.args.index c.in-Some.entry.now (sym c.get_mut.ensures.value ∙ ap option_copied_mut c.in-Some.is) in
    grind (arith, common_steps, counted)

-- the entry is as it was when its count was looked at
at_once : (g : _) (c : Then-next-eq1 g) → slice_get c.self.inside.ring.items c.args.index ≡ Some c.change-next.new.self
at_once g c =
    looked_at _ _ _ _ (sym c.get_mut.ensures.value ∙ ap option_copied_mut c.in-Some.is) c.change-next.ensures.changed c.change-next.ensures.value

at : (g : _) (c : After-clone g) → slice_get c.self.inside.ring.items c.args.index ≡ Some c.change-next.new.self
at g c =
    looked_at _ _ _ _ (sym c.get_mut.ensures.value ∙ ap option_copied_mut c.in-Some.is) c.change-next.ensures.changed c.change-next.ensures.value

-- one reader owes the message
once : (g : _) (c : Then-next-eq1 g) → get_or c.args.self.now.owed c.args.index 0 ≡ 1
once g c =
    owed_first _ _ c.self.inside.ring c.args.self.now c.args.index c.change-next.new.self c.self.view_is (at_once g c) c.if-index-eq0.true
    ∙ ap next_of c.change-next.ensures.changed
    ∙ c.if-next-eq1.true

-- several do
several : (g : _) (c : After-clone g) → 1 < get_or c.args.self.now.owed c.args.index 0
several g c =
    let s = c.self.inside in
    let q = c.args.self.now in
    let i = c.args.index in
    let here = at g c in
    owed_more q i (IsQueue-seen _ _ _ _ q c.self.invariant c.self.view_is) c.requires.within c.requires.owed
    (elim c.else-index-eq0.branch [
      | else-index-eq0-via-then-index-eq0+else-next-eq1 w ↦ λ first one. w.if-next-eq1.false (sym (owed_first s.front s.room s.ring q i c.change-next.new.self c.self.view_is here first ∙ ap next_of c.change-next.ensures.changed) ∙ one)
      | else-index-eq0-via-else-index-eq0 w ↦ λ first. absurd (w.if-index-eq0.false first)
    ])

message : (g : _) (c : After-clone g) → slice_get c.args.self.now.messages c.args.index ≡ Some c.change-next.new.self.message
message g c =
    message_at _ _ c.self.inside.ring c.args.self.now c.args.index c.change-next.new.self c.self.view_is (at g c)

-- the ring, of which an entry was lent and has not changed
pub invariant_of-self : goal.invariant_of-self
invariant_of-self g c = sound-same _ _ _ _ c.args.index c.change-next.new.self c.self.invariant (at_once g (goal.at.invariant_of-self g c).Then-next-eq1)

pub invariant_of-self-in_err-message : goal.invariant_of-self-in_err-message
invariant_of-self-in_err-message g c = sound-same _ _ _ _ c.args.index c.change-next.new.self c.self.invariant (at g (goal.at.invariant_of-self-in_err-message g c).After-clone)

pub returns-then-next-eq1-clause-moved : goal.returns-then-next-eq1-clause-moved
returns-then-next-eq1-clause-moved g c = grind (arith, common_steps, at_once, same_ring)

pub returns-then-next-eq1-clause-cloned : goal.returns-then-next-eq1-clause-cloned
returns-then-next-eq1-clause-cloned g c =
    let here = (goal.at.returns-then-next-eq1-clause-cloned g c).Then-next-eq1 in
    λ more. absurd (omega (arith, more, once g here))

pub returns-then-next-eq1-clause-ok : goal.returns-then-next-eq1-clause-ok
returns-then-next-eq1-clause-ok g c =
    let s = c.self.inside in
    let here = (goal.at.returns-then-next-eq1-clause-ok g c).Then-next-eq1 in
    let seen = ap (λ ring. queue_of s.front ring s.room) (same_ring s.ring c.args.index c.change-next.new.self (at_once g here)) ∙ c.self.view_is in
    rw (once g here) (c.in-Some-pop.ensures.some ∙ ap (without 1) seen)

pub returns-in_err-message-clause-moved : goal.returns-in_err-message-clause-moved
returns-in_err-message-clause-moved g c =
    λ one. absurd (omega (arith, one, several g (goal.at.returns-in_err-message-clause-moved g c).After-clone))

pub returns-in_err-message-clause-cloned : goal.returns-in_err-message-clause-cloned
returns-in_err-message-clause-cloned g c = grind (arith, common_steps, message, IfOk-from_err)

on_err : {A B P : Type 0} (r : Result A B) → P → OnErr r P
on_err (Ok a) p = tt
on_err (Err e) p = p

pub returns-in_err-message-clause-err : goal.returns-in_err-message-clause-err
returns-in_err-message-clause-err g c = grind (arith, common_steps, on_err, at, same_ring)

pub returns-in_err-message-clause-refused : goal.returns-in_err-message-clause-refused
returns-in_err-message-clause-refused g c = search (rules, on_err, several)

-- a reader of the message moves to the next
reader : (g : _) (c : After-clone g) → 0 < c.change-next.new.self.next
reader g c =
    let here = at g c in
    let items = c.self.inside.ring.items in
    let some = reader_at _ _ _ _ c.args.self.now c.args.index c.self.invariant c.self.view_is (slice_get_within items c.args.index c.change-next.new.self here) (λ above _. c.requires.owed above) in
    omega (arith, some, next_at items c.args.index c.change-next.new.self here)

pub change-requires-clause-enough : goal.change-requires-clause-enough
change-requires-clause-enough g c = reader g (goal.at.change-requires-clause-enough g c).After-clone

left : (g : _) (c : After-change g) → c.change.new.self ≡ fewer c.change-next.new.self
left g c = one_fewer _ c.change-next.new.self _ c.change.ensures.changed c.change.ensures.value

pub add_readers-requires-clause-summed : goal.add_readers-requires-clause-summed
add_readers-requires-clause-summed g c =
    let here = goal.at.add_readers-requires-clause-summed g c in
    let counted = taken _ _ _ c.change-next.new.self c.self.invariant.counted (at g here.After-clone) (reader g here.After-clone) in
    counted.summed ∙ ap (λ e. sum (map next_of (set c.self.inside.ring.items c.args.index e)) + 1) (sym (left g here.After-change))

moves : (g : _) (c : After-add_readers g) → slice_get c.self.inside.ring.items c.args.index ≡ Some c.change-next.new.self → 0 < c.change-next.new.self.next → c.change.new.self ≡ fewer c.change-next.new.self
    → MovesOn c.self.inside.ring c.add_readers.new.ring c.self.inside.total c.add_readers.new.total c.args.index (c.args.index + 1)
moves g c here some is =
    let items = c.self.inside.ring.items in
    let entry = c.change-next.new.self in
    record {
      between = map next_of (set items c.args.index (fewer entry));
      left = taken _ _ _ entry c.self.invariant.counted here some;
      owed = c.add_readers.ensures.owed ∙ ap (λ e. one_more_from (c.args.index + 1) (owed_by 0 (map next_of (set items c.args.index e)))) is;
      messages = c.add_readers.ensures.messages ∙ ap (λ e. map message_of (set items c.args.index e)) is ∙ messages-set items c.args.index entry (fewer entry) here refl;
      summed = c.add_readers.ensures.summed;
      capacity = c.add_readers.ensures.capacity;
    }

pub returns-clause-moved : goal.returns-clause-moved
returns-clause-moved g c =
    λ one. absurd (omega (arith, one, several g (goal.at.returns-clause-moved g c).After-clone))

pub returns-clause-cloned : goal.returns-clause-cloned
returns-clause-cloned g c = grind (arith, common_steps, message)

pub invariant_of-self-2 : goal.invariant_of-self-2
invariant_of-self-2 g c =
    let here = goal.at.invariant_of-self-2 g c in
    sound-moved _ _ _ _ c.args.self.now c.self.invariant c.self.view_is _ _ (several g here.After-clone)
    _ _ (moves g here.After-add_readers (at g here.After-clone) (reader g here.After-clone) (left g here.After-change))

pub returns-clause-ok : goal.returns-clause-ok
returns-clause-ok g c =
    let here = goal.at.returns-clause-ok g c in
    let is = IsQueue-seen _ _ _ _ c.args.self.now c.self.invariant c.self.view_is in
    seen-moved _ _ _ _ c.args.self.now c.self.invariant c.self.view_is _ _ 1 refl _ _ (moves g here.After-add_readers (at g here.After-clone) (reader g here.After-clone) (left g here.After-change))
    ∙ passed_one c.args.self.now c.args.index (at_least 1 _ is.rises)
    ∙ sym (read_several c.args.self.now c.args.index (several g here.After-clone))
