-- A receiver reads, and its cursor moves; if its read is refused, the cursor is put back.
use Rattle.std.proofs.Common.{◌≡◌, ℕ, Some, ◌+◌, ◌-◌, ap, ◌∙◌, subst, arith, rules}
use Rattle.std.proofs.lemmas.Grind.{common_steps}
use Rattle.std.specs.FinMap.{get, insert}
use Rattle.bcast_model.specs.Control.{Cursors}
use Rattle.bcast_model.proofs.DeliveryMaps.{inserted}
use Rattle.bcast_queue.specs.Queue.{read_at}
use Rattle.bcast_store.specs.Stored.{Stored, with_cursors, IsOwed, IsHandedOut}
use Rattle.bcast_store.proofs.Counted.{IsCounted}
use Rattle.bcast_store.proofs.Least.{insert_twice, insert_there}
use Rattle.bcast_store.proofs.Messages.{same_sound, same_store}
use Rattle.bcast_store.proofs.Reading.{is_reading, reading_up, sound_read, store_read, owed_by_another, handed_out}
use Rattle.bcast_store.proofs.Store.read.Goals as goal

-- a cursor that is put back
put_back : (m : Cursors) (key cursor other : ℕ) → get m key ≡ Some cursor → insert (insert m key other) key cursor ≡ m
put_back m key cursor other at = insert_twice m key other cursor ∙ insert_there m key cursor at

-- what callers rely on, before what the code itself needs
pub returns-in-Ok-clause-given : goal.returns-in-Ok-clause-given
returns-in-Ok-clause-given g c =
    let r = is_reading c.self.inside.queue c.self.inside.cursors c.args.self.now c.args.key c.args.number c.front.result c.self.view_is c.front.ensures c.requires.at c.requires.below in
    let n = c.invariant_holds.ensures in
    subst (λ s. IsHandedOut g.T.Clone.is_clone s c.args.key c.args.number c.in-Ok.msg) c.self.view_is
    (handed_out c.self.inside.queue c.self.inside.cursors c.args.key c.args.number (c.args.number - c.front.result) c.self.invariant r g.T.Clone.is_clone c.in-Ok.msg (record { lengths = n.lengths; owed = n.owed }) c.in-Ok.ensures.moved c.in-Ok.ensures.cloned)

pub returns-in-Ok-clause-ok : goal.returns-in-Ok-clause-ok
returns-in-Ok-clause-ok g c =
    let r = is_reading c.self.inside.queue c.self.inside.cursors c.args.self.now c.args.key c.args.number c.front.result c.self.view_is c.front.ensures c.requires.at c.requires.below in
    let n = c.invariant_holds.ensures in
    let m = c.invariant_holds-in-Ok.ensures in
    let set = rw (c.replace.ensures.value ∙ r.at) at c.replace.ensures.some in
    let after = subst IsCounted c.in-Ok.ensures.ok (record { lengths = m.lengths; owed = m.owed }) in
    same_store c.read.new.self (read_at (c.args.number - c.front.result) c.self.inside.queue) c.replace.new.self (insert c.self.inside.cursors c.args.key (c.args.number + 1)) c.in-Ok.ensures.ok set
    ∙ store_read c.self.inside.queue c.self.inside.cursors c.args.key c.args.number (c.args.number - c.front.result) c.self.invariant r (record { lengths = n.lengths; owed = n.owed }) after
    ∙ ap (λ (s : Stored g.row.T.Denot). with_cursors s (insert s.cursors c.args.key (c.args.number + 1))) c.self.view_is

pub returns-in-Err-clause-owed : goal.returns-in-Err-clause-owed
returns-in-Err-clause-owed g c =
    let r = is_reading c.self.inside.queue c.self.inside.cursors c.args.self.now c.args.key c.args.number c.front.result c.self.view_is c.front.ensures c.requires.at c.requires.below in
    subst (λ s. IsOwed s c.args.key c.args.number) c.self.view_is
    (owed_by_another c.self.inside.queue c.self.inside.cursors c.args.key c.args.number (c.args.number - c.front.result) c.self.invariant r c.in-Err.ensures.refused)

pub returns-in-Err-clause-err : goal.returns-in-Err-clause-err
returns-in-Err-clause-err g c =
    let m = c.self.inside.cursors in
    let key = c.args.key in
    let r = is_reading c.self.inside.queue m c.args.self.now key c.args.number c.front.result c.self.view_is c.front.ensures c.requires.at c.requires.below in
    let moved : c.replace.new.self ≡ insert m key (c.args.number + 1) = rw (c.replace.ensures.value ∙ r.at) at c.replace.ensures.some in
    let there = ap (λ ms. get ms key) moved ∙ inserted m key (c.args.number + 1) in
    let set = rw (c.replace-in-Err.ensures.value ∙ there) at c.replace-in-Err.ensures.some in
    let same : c.unwrap_or-cursor.result ≡ r.cursor = grind (arith, common_steps, r.at) in
    same_store c.read.new.self c.self.inside.queue c.replace-in-Err.new.self m c.in-Err.ensures.err
    (set ∙ ap (λ ms. insert ms key c.unwrap_or-cursor.result) moved ∙ ap (insert (insert m key (c.args.number + 1)) key) same ∙ put_back m key r.cursor (c.args.number + 1) r.at)
    ∙ c.self.view_is

pub read-requires-clause-owed : goal.read-requires-clause-owed
read-requires-clause-owed g c = λ some.
    let r = is_reading c.self.inside.queue c.self.inside.cursors c.args.self.now c.args.key c.args.number c.front.result c.self.view_is c.front.ensures c.requires.at c.requires.below in
    reading_up c.self.inside.queue c.self.inside.cursors c.args.key c.args.number (c.args.number - c.front.result) c.self.invariant r some

pub invariant_of-self : goal.invariant_of-self
invariant_of-self g c = search (rules, is_reading, same_sound, sound_read)

pub invariant_of-self-in-Err : goal.invariant_of-self-in-Err
invariant_of-self-in-Err g c = grind (arith, common_steps, is_reading, inserted, put_back, same_sound)
