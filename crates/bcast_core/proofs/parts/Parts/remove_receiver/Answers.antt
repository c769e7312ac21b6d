use Rattle.bcast_core.proofs.Common.{ap, ◌∙◌, arith, common_steps, View, pair_ended, stream_of, future_of, Stored, view-with_cursors}
use Rattle.std.specs.FinMap.{remove}
use Rattle.bcast_core.proofs.Rooms.{room_removed}
use Rattle.bcast_core.proofs.parts.Parts.remove_receiver.Goals as goal

-- the front doesn't depend on who waits, so the listeners may leave after the cursor
pub returns-then-not-is_empty-clause-removed : goal.returns-then-not-is_empty-clause-removed
returns-then-not-is_empty-clause-removed g c = λ _.
    c.end_listeners.ensures
    ∙ ap (λ (v : View g.row.T.Denot). record v { control = pair_ended (pair_ended v.control (stream_of c.args.key)) (future_of c.args.key) })
    (view-with_cursors c.self.inside.store c.remove.new.self _ c.self.inside.sends c.self.inside.receives _ _ _ _ _ _ (λ m. remove m c.args.key) c.args.self.now (rw c.if-not-remove.false at c.remove.ensures.rest) c.self.view_is)

pub returns-else-not-is_empty-clause-removed : goal.returns-else-not-is_empty-clause-removed
returns-else-not-is_empty-clause-removed g c = λ _.
    let left = view-with_cursors c.self.inside.store c.remove.new.self _ c.self.inside.sends c.self.inside.receives _ _ _ _ _ _ (λ m. remove m c.args.key) c.args.self.now (rw c.if-not-remove.false at c.remove.ensures.rest) c.self.view_is in
    grind (arith, common_steps, left)

pub invariant_of-self-then-not-is_empty : goal.invariant_of-self-then-not-is_empty
invariant_of-self-then-not-is_empty g c = room_removed c.self.inside.store.cursors c.remove.new.self.cursors c.args.key c.self.inside.receives.room (ap (λ (s : Stored g.row.T.Denot). s.cursors) (rw c.if-not-remove.false at c.remove.ensures.rest)) c.self.invariant

pub invariant_of-self-else-not-is_empty : goal.invariant_of-self-else-not-is_empty
invariant_of-self-else-not-is_empty g c = room_removed c.self.inside.store.cursors c.remove.new.self.cursors c.args.key c.self.inside.receives.room (ap (λ (s : Stored g.row.T.Denot). s.cursors) (rw c.if-not-remove.false at c.remove.ensures.rest)) c.self.invariant
