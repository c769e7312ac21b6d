-- The slot of the listener is emptied.
use Rattle.bcast_waiting.proofs.Common.{◌≡◌, ◌<◌, ◌≤◌, ◌-◌, cond, Some, ltb, sym, ap, ◌∙◌, subst, arith, rules, common_steps, consume, Event, is_told, listeners_of, IsKept}
use Rattle.bcast_waiting.proofs.EventInvariant.{some_told, is_told_at, taken, IsKept-left}
use Rattle.bcast_waiting.proofs.event.Event.take.Goals as goal
use Rattle.bcast_waiting.proofs.event.Event.take.Goals.{After-take_at-notice}

pub overflow_sub-self-then-position-self : goal.overflow_sub-self-then-position-self
overflow_sub-self-then-position-self g c =
    omega (arith, some_told c.self.invariant g.met.I.Indexed.test c.args.id c.in-Some.position c.in-Some.ensures c.if-position-self.true)

-- how many are told without it
told_less : (i end told : _) → i < end → told - 1 ≡ cond (ltb i end) (told - 1) told
told_less i end told h = grind (arith, h)

told_same : (i end told : _) → end ≤ i → told ≡ cond (ltb i end) (told - 1) told
told_same i end told h = grind (arith, h)

kept : (g : _) (c : After-take_at-notice g) (rest : _) → rest ≡ cond (ltb c.in-Some.position c.self.inside.told_end) (c.self.inside.told - 1) c.self.inside.told → IsKept g.I.PartialEq.eq g.I.Indexed.number c.take_at-notice.new.self (c.self.inside.len - 1) rest c.self.inside.told_end
kept g c rest is =
    let e = c.self.inside in
    subst (λ s. IsKept g.I.PartialEq.eq g.I.Indexed.number s (e.len - 1) rest e.told_end) (sym c.take_at-notice.ensures)
    (IsKept-left c.self.invariant g.met.I.Indexed.test c.args.id c.in-Some.position c.in-Some.ensures rest is)

-- which listeners are left
left : (g : _) (c : After-take_at-notice g) (rest : _) → rest ≡ cond (ltb c.in-Some.position c.self.inside.told_end) (c.self.inside.told - 1) c.self.inside.told → ◌≡◌ {A = Event g.row.I.Denot} (record { listeners = listeners_of c.take_at-notice.new.self.ids rest; room = c.take_at-notice.new.self.room }) (record c.args.self.now { listeners = consume g.I.PartialEq.eq c.args.id c.args.self.now.listeners })
left g c rest is =
    let e = c.self.inside in
    let listeners =
    ap (λ s. listeners_of s.ids rest) c.take_at-notice.ensures
    ∙ taken c.self.invariant g.met.I.Indexed.test c.args.id c.in-Some.position c.in-Some.ensures rest is in
    (λ i. record { listeners = listeners i; room = (c.take_at-notice.ensures i).room })
    ∙ ap (λ (e : Event g.row.I.Denot). record e { listeners = consume g.I.PartialEq.eq c.args.id e.listeners }) c.self.view_is

-- what the result says of the list before the call
told_then : (g : _) (c : After-take_at-notice g) → Some (ltb c.in-Some.position c.self.inside.told_end) ≡ is_told g.I.PartialEq.eq c.args.id c.args.self.now.listeners
told_then g c =
    is_told_at c.self.invariant g.met.I.Indexed.test c.args.id c.in-Some.position c.in-Some.ensures
    ∙ ap (λ e. is_told g.I.PartialEq.eq c.args.id e.listeners) c.self.view_is

pub invariant_of-self : goal.invariant_of-self
invariant_of-self g c = search (rules, kept, told_less)

pub invariant_of-self-else-position-self : goal.invariant_of-self-else-position-self
invariant_of-self-else-position-self g c = grind (arith, common_steps, kept, told_same)

pub returns-then-position-self-clause-told : goal.returns-then-position-self-clause-told
returns-then-position-self-clause-told g c = grind (arith, common_steps, told_then)

pub returns-else-position-self-clause-told : goal.returns-else-position-self-clause-told
returns-else-position-self-clause-told g c = grind (arith, common_steps, told_then)

pub returns-then-position-self-clause-rest : goal.returns-then-position-self-clause-rest
returns-then-position-self-clause-rest g c = grind (arith, common_steps, left, told_less)

pub returns-else-position-self-clause-rest : goal.returns-else-position-self-clause-rest
returns-else-position-self-clause-rest g c = grind (arith, common_steps, left, told_same)
