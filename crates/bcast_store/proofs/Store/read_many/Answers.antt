-- A receiver is given several messages, and its cursor moves past them.
use Rattle.std.proofs.Common.{◌≡◌, ◌+◌, ◌-◌, ◌<◌, Some, take, drop, get_or, slice_get, length, subst, sym, ap, ◌∙◌, arith}
use Rattle.std.specs.Prelude.{IsSomeAnd}
use Rattle.std.specs.List.{AppendsClones}
use Rattle.std.specs.FinMap.{get, insert}
use Rattle.bcast_model.proofs.Views.{slice_get-drop}
use Rattle.bcast_queue.specs.Queue.{passed, without}
use Rattle.bcast_store.specs.Stored.{Stored, AreHandedOut, IsHandedOut, end_of, with_cursors}
use Rattle.bcast_store.proofs.Counted.{IsCounted}
use Rattle.bcast_store.proofs.Messages.{same_sound, same_store}
use Rattle.bcast_store.proofs.Owing.{found}
use Rattle.bcast_store.proofs.Reading.{steps_up}
use Rattle.bcast_store.proofs.ReadingMany.{ReadsMany, steps_own, sound_many, store_many, handed_many}
use Rattle.bcast_store.proofs.Store.read_many.Goals as goal
use Rattle.bcast_store.proofs.Store.read_many.Goals.{After-front, After-put_clones-shared, After-replace}

-- the receiver's cursor, and its index
at : (g : _) (c : After-front g) → get c.self.inside.cursors c.args.key ≡ Some c.args.number
at g c = ap (λ s. get s.cursors c.args.key) c.self.view_is ∙ c.requires.at

is : (g : _) (c : After-front g) → c.args.number ≡ c.self.inside.queue.front + (c.args.number - c.front.result)
is g c = omega (arith, c.front.ensures, c.requires.kept, ap (λ s. s.front) c.self.view_is)

reads : (g : _) (c : After-put_clones-shared g) → get c.self.inside.cursors c.args.key ≡ Some c.args.number → c.args.number ≡ c.self.inside.queue.front + (c.args.number - c.front.result)
    → ReadsMany c.self.inside.queue c.self.inside.cursors c.args.key c.args.number (c.args.number - c.front.result) c.take_own-own.result c.put_clones-shared.result
reads g c at is = record {
  sound = c.self.invariant;
  counted = record { lengths = c.invariant_holds.ensures.lengths; owed = c.invariant_holds.ensures.owed };
  at = at;
  is = is;
  first = c.take_own-own.ensures.first;
  alone = c.take_own-own.ensures.own;
  within = omega (arith, is, c.take_own-own.ensures.at_most, c.put_clones-shared.ensures.at_most, c.requires.within, ap (λ s. end_of s) c.self.view_is);
}

-- what callers rely on, before what the code itself needs
pub returns-clause-given : goal.returns-clause-given
returns-clause-given g c =
    let here = goal.at.returns-clause-given g c in
    let q = c.self.inside.queue in
    let index = c.args.number - c.front.result in
    let own = c.take_own-own.ensures in
    let shared = c.put_clones-shared.ensures in
    let made = subst (λ ms. AppendsClones g.T.Clone.is_clone c.take_own-own.new.msgs.items c.put_clones-shared.new.msgs.items (take c.put_clones-shared.result (drop index ms))) (ap (λ p. p.messages) own.rest) shared.given in
    subst (λ (s : Stored g.row.T.Denot). AreHandedOut (IsHandedOut g.T.Clone.is_clone s c.args.key) c.args.number c.args.msgs.now.items (c.take_own-own.result + c.put_clones-shared.result) c.put_clones-shared.new.msgs.items) c.self.view_is
    (handed_many q c.self.inside.cursors c.args.key c.args.number index c.take_own-own.result c.put_clones-shared.result (reads g here.After-put_clones-shared (at g here.After-front) (is g here.After-front))
    g.T.Clone.is_clone c.args.msgs.now.items c.take_own-own.new.msgs.items c.put_clones-shared.new.msgs.items c.invariant_holds.ensures.never_falls (λ some. own.shared (omega (arith, some, shared.at_most))) own.taken made)

pub returns-clause-refused : goal.returns-clause-refused
returns-clause-refused g c = λ fewer.
    let here = goal.at.returns-clause-refused g c in
    let q = c.self.inside.queue in
    let index = c.args.number - c.front.result in
    let P : g.row.T.Denot → Type 0 = λ msg. g.T.Clone.is_infallible msg → ⊥ in
    let stopped = found (slice_get c.take_own-own.new.self.messages (index + c.put_clones-shared.result)) P (c.put_clones-shared.ensures.refused (omega (arith, fewer))) in
    let there : slice_get q.messages (c.take_own-own.result + (index + c.put_clones-shared.result)) ≡ Some stopped.0 =
    sym (slice_get-drop c.take_own-own.result (index + c.put_clones-shared.result) q.messages) ∙ ap (λ p. slice_get p.messages (index + c.put_clones-shared.result)) (sym c.take_own-own.ensures.rest) ∙ stopped.1 in
    let number : c.take_own-own.result + (index + c.put_clones-shared.result) ≡ c.args.number + (c.take_own-own.result + c.put_clones-shared.result) - q.front = omega (arith, is g here.After-front) in
    subst (λ (s : Stored g.row.T.Denot). IsSomeAnd (slice_get s.queue (c.args.number + (c.take_own-own.result + c.put_clones-shared.result) - s.front)) P) c.self.view_is
    (subst (λ o. IsSomeAnd o P) (sym (ap (slice_get q.messages) (sym number) ∙ there)) stopped.2)

pub take_own-own-requires-clause-owed : goal.take_own-own-requires-clause-owed
take_own-own-requires-clause-owed g c = λ some below.
    let here = (goal.at.take_own-own-requires-clause-owed g c).After-front in
    steps_up c.self.inside.queue c.self.inside.cursors c.args.key c.args.number (c.args.number - c.front.result) c.self.invariant (at g here) (is g here) below some

pub pass-requires-clause-owed : goal.pass-requires-clause-owed
pass-requires-clause-owed g c = λ some below.
    let here = goal.at.pass-requires-clause-owed g c in
    let index = c.args.number - c.front.result in
    let rest = c.take_own-own.ensures.rest in
    let within = subst (λ p. index < length p.messages) rest below in
    subst (λ p. get_or p.owed (index - 1) 0 < get_or p.owed index 0) (sym rest)
    (steps_own c.self.inside.queue c.self.inside.cursors c.args.key c.args.number index c.take_own-own.result c.put_clones-shared.result (reads g here.After-put_clones-shared (at g here.After-front) (is g here.After-front)) within some)

-- the queue and the cursors then
queue_is : (g : _) (c : After-replace g) → c.pass.new.self ≡ passed (c.args.number - c.front.result) c.put_clones-shared.result (without c.take_own-own.result c.self.inside.queue)
queue_is g c = c.pass.ensures.passed ∙ ap (passed (c.args.number - c.front.result) c.put_clones-shared.result) c.take_own-own.ensures.rest

cursors_are : (g : _) (c : After-replace g) → get c.self.inside.cursors c.args.key ≡ Some c.args.number → c.replace.new.self ≡ insert c.self.inside.cursors c.args.key (c.args.number + (c.take_own-own.result + c.put_clones-shared.result))
cursors_are g c at = rw (c.replace.ensures.value ∙ at) at c.replace.ensures.some

pub returns-clause-passed : goal.returns-clause-passed
returns-clause-passed g c =
    let here = goal.at.returns-clause-passed g c in
    let index = c.args.number - c.front.result in
    let n = c.take_own-own.result + c.put_clones-shared.result in
    let queue = queue_is g here.After-replace in
    let after = subst IsCounted queue (record { lengths = c.invariant_holds-2.ensures.lengths; owed = c.invariant_holds-2.ensures.owed }) in
    same_store c.pass.new.self (passed index c.put_clones-shared.result (without c.take_own-own.result c.self.inside.queue)) c.replace.new.self (insert c.self.inside.cursors c.args.key (c.args.number + n)) queue (cursors_are g here.After-replace (at g here.After-front))
    ∙ store_many c.self.inside.queue c.self.inside.cursors c.args.key c.args.number index c.take_own-own.result c.put_clones-shared.result (reads g here.After-put_clones-shared (at g here.After-front) (is g here.After-front)) after
    ∙ ap (λ (s : Stored g.row.T.Denot). with_cursors s (insert s.cursors c.args.key (c.args.number + n))) c.self.view_is

pub invariant_of-self : goal.invariant_of-self
invariant_of-self g c =
    let here = goal.at.invariant_of-self g c in
    let index = c.args.number - c.front.result in
    let n = c.take_own-own.result + c.put_clones-shared.result in
    same_sound c.pass.new.self (passed index c.put_clones-shared.result (without c.take_own-own.result c.self.inside.queue)) c.replace.new.self (insert c.self.inside.cursors c.args.key (c.args.number + n)) (queue_is g here.After-replace) (cursors_are g here.After-replace (at g here.After-front))
    (sound_many c.self.inside.queue c.self.inside.cursors c.args.key c.args.number index c.take_own-own.result c.put_clones-shared.result (reads g here.After-put_clones-shared (at g here.After-front) (is g here.After-front)))
