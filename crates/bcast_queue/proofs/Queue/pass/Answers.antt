-- A reader moves on: it is taken away from one message, and added at another.
use Rattle.std.proofs.Common.{◌≡◌, ℕ, ◌<◌, get_or, length, refl, ap, sym, ◌∙◌, arith}
use Rattle.std.proofs.lemmas.Grind.{common_steps}
use Rattle.std.proofs.lemmas.List.{length-map}
use Rattle.bcast_queue.specs.Entries.{counts, next_of, message_of, owed_by}
use Rattle.bcast_queue.specs.Queue.{one_more_from}
use Rattle.bcast_queue.proofs.OwedBy.{one_stays}
use Rattle.bcast_queue.proofs.Unowed.{AreLeft, AreLeft-set}
use Rattle.bcast_queue.proofs.Queues.{reader_at, same_queue}
use Rattle.bcast_queue.proofs.Reading.{MovesOn, sound-moved, seen-moved}
use Rattle.bcast_queue.proofs.Queue.pass.Goals as goal
use Rattle.bcast_queue.proofs.Queue.pass.Goals.{Else-count-eq0, After-change_at, After-add_readers}

inside : (g : _) (c : Else-count-eq0 g) → c.args.index < length c.self.inside.ring.items
inside g c =
    let long = ap (λ q. length q.messages) c.self.view_is in
    omega (arith, c.requires.within, c.if-count-eq0.false, sym long, length-map c.self.inside.ring.items message_of)

reader : (g : _) (c : Else-count-eq0 g) → 0 < get_or (counts c.self.inside.ring) c.args.index 0
reader g c = reader_at _ _ _ c.self.inside.ring c.args.self.now c.args.index c.self.invariant c.self.view_is (inside g c) c.requires.owed

-- the counts without the reader
fewer : (g : _) (c : After-change_at g) (w : Else-count-eq0 g) → 0 < get_or (counts c.self.inside.ring) c.args.index 0 → c.args.index < length c.self.inside.ring.items
    → AreLeft c.self.inside.total c.args.index (counts c.self.inside.ring) (counts c.change_at.new.ring)
fewer g c w some within =
    AreLeft-set _ _ c.change_at.result _ _ c.self.invariant.counted
    (omega (arith, within, length-map c.self.inside.ring.items next_of))
    (omega (arith, some, c.change_at.ensures.value))
    c.change_at.ensures.counts

moves : (g : _) (c : After-add_readers g) (index : ℕ) → AreLeft c.self.inside.total c.args.index (counts c.self.inside.ring) (counts c.change_at.new.ring) → owed_by 0 (counts c.add_readers.new.ring) ≡ one_more_from index (owed_by 0 (counts c.change_at.new.ring))
    → MovesOn c.self.inside.ring c.add_readers.new.ring c.self.inside.total c.add_readers.new.total c.args.index index
moves g c index left owed =
    record {
      between = counts c.change_at.new.ring;
      left = left;
      owed = owed;
      messages = c.add_readers.ensures.messages ∙ c.change_at.ensures.messages;
      summed = c.add_readers.ensures.summed;
      capacity = c.add_readers.ensures.capacity ∙ c.change_at.ensures.capacity;
    }

-- what callers rely on, before what the code itself needs
pub returns-clause-passed : goal.returns-clause-passed
returns-clause-passed g c =
    let here = goal.at.returns-clause-passed g c in
    let left = fewer g here.After-change_at here.Else-count-eq0 (reader g here.Else-count-eq0) (inside g here.Else-count-eq0) in
    seen-moved _ _ _ _ c.args.self.now c.self.invariant c.self.view_is _ _ _ refl _ _ (moves g here.After-add_readers _ left c.add_readers.ensures.owed)

pub returns-then-count-eq0-clause-passed : goal.returns-then-count-eq0-clause-passed
returns-then-count-eq0-clause-passed g c = grind (arith, common_steps, one_stays, same_queue)

pub change_at-requires-clause-enough : goal.change_at-requires-clause-enough
change_at-requires-clause-enough g c = reader g (goal.at.change_at-requires-clause-enough g c).Else-count-eq0

pub add_readers-requires-clause-summed : goal.add_readers-requires-clause-summed
add_readers-requires-clause-summed g c =
    let here = goal.at.add_readers-requires-clause-summed g c in
    (fewer g here.After-change_at here.Else-count-eq0 (reader g here.Else-count-eq0) (inside g here.Else-count-eq0)).summed

pub invariant_of-self : goal.invariant_of-self
invariant_of-self g c =
    let here = goal.at.invariant_of-self g c in
    let left = fewer g here.After-change_at here.Else-count-eq0 (reader g here.Else-count-eq0) (inside g here.Else-count-eq0) in
    sound-moved _ _ _ _ c.args.self.now c.self.invariant c.self.view_is _ _ (c.requires.shared (omega (arith, c.if-count-eq0.false))) _ _ (moves g here.After-add_readers _ left c.add_readers.ensures.owed)
