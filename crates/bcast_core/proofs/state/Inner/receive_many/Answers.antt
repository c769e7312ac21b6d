-- Several messages are given, and at most one send is told.
use Rattle.bcast_core.proofs.Common.{◌≡◌, inl, inr, ◌+◌, is_some, sym, ap, ◌∙◌, subst, arith, IsSomeAnd, IsShown, View, cursor_of, kept_at, tell_if_ready, Stored, AreHandedOut, IsHandedOut, insert, view-with_cursors, valid_shown}
use Rattle.std.proofs.lemmas.Bool.{cases_lt}
use Rattle.bcast_core.proofs.Moves.{after}
use Rattle.bcast_core.proofs.Batches.{StandsAt, into_given, into_shown, unread_is, next_refused}
use Rattle.bcast_core.proofs.Rooms.{room_moved}
use Rattle.bcast_core.proofs.state.Inner.receive_many.Goals as goal
use Rattle.bcast_core.proofs.state.Inner.receive_many.Goals.{After-tell_a_sender}

stands : (g : _) (c : After-tell_a_sender g) → StandsAt c.self.inside.parts c.args.key c.in-Some.cursor
stands g c = record {
  there = sym (c.cursor.ensures ∙ ap (λ inside. cursor_of inside.parts.control c.args.key) c.self-inside.view_is) ∙ c.in-Some.is;
  reached = omega (arith, c.if-cursor-front.false, c.front.ensures, ap (λ inside. inside.parts.front) c.self-inside.view_is);
}

new_is : (g : _) (c : After-tell_a_sender g) → c.tell_a_sender.new.self ≡ after c.self.inside.parts c.args.key (c.in-Some.cursor + c.read_many-given.result)
new_is g c =
    c.tell_a_sender.ensures
    ∙ ap tell_if_ready (view-with_cursors _ c.read_many-given.new.self _ c.self-inside.inside.0.0.sends c.self-inside.inside.0.0.receives _ _ _ _ _ _ (λ m. insert m c.args.key (c.in-Some.cursor + c.read_many-given.result)) c.self.inside.parts c.read_many-given.ensures.passed (ap (λ inside. inside.parts) c.self-inside.view_is))

pub returns : goal.returns
returns g c =
    let here = (goal.at.returns g c).After-tell_a_sender in
    let at = stands g here in
    let end = (valid_shown c.self.invariant).reach c.args.key c.in-Some.cursor at.there in
    let last = c.end.ensures ∙ ap (λ inside. inside.parts.end) c.self-inside.view_is in
    let handed = subst (λ (v : View g.row.T.Denot). AreHandedOut (IsHandedOut g.T.Clone.is_clone v c.args.key) c.in-Some.cursor c.args.msgs.now.items c.read_many-given.result c.read_many-given.new.msgs.items)
    (ap (λ inside. inside.parts) c.self-inside.view_is) (rw c.reserve.ensures.items at c.read_many-given.ensures.given) in
    record {
      at_most = omega (arith, c.read_many-given.ensures.at_most, c.min-count.ensures);
      received = into_given c.self.view_is c.self.invariant at (omega (arith, end, c.read_many-given.ensures.at_most, c.min-count.ensures, last)) handed (new_is g here);
      sure = λ none room. elim (cases_lt c.read_many-given.result c.min-count.result) [
        | inl fewer ↦
            let refused = subst (λ (v : View g.row.T.Denot). IsSomeAnd (kept_at v (c.in-Some.cursor + c.read_many-given.result)) (λ msg. g.T.Clone.is_infallible msg → ⊥)) (ap (λ inside. inside.parts) c.self-inside.view_is) (c.read_many-given.ensures.refused fewer) in
            inr (next_refused at (λ msg. g.T.Clone.is_infallible msg → ⊥) c.read_many-given.result refused (new_is g here))
        | inr all ↦ inl (let left = unread_is at c.self.view_is in omega (arith, all, left, c.read_many-given.ensures.at_most, c.min-count.ensures, last))
      ];
    }

pub invariant_of-self : goal.invariant_of-self
invariant_of-self g c = into_shown (subst IsShown c.self.view_is c.self.invariant) (returns g c).received

pub invariant_of-self-inside : goal.invariant_of-self-inside
invariant_of-self-inside g c =
    let p = c.self-inside.inside.0.0 in
    let there = sym (ap is_some c.cursor.ensures) ∙ ap is_some c.in-Some.is in
    room_moved p.store.cursors c.read_many-given.new.self.cursors c.args.key (c.in-Some.cursor + c.read_many-given.result) p.receives.room there (ap (λ (s : Stored g.row.T.Denot). s.cursors) c.read_many-given.ensures.passed) c.self-inside.invariant
