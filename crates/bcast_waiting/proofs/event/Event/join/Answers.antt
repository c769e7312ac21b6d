-- A listener that joins was not listed.
use Rattle.bcast_waiting.proofs.Common.{◌≡◌, ◌<◌, ◌+◌, false, length, ap, sym, ◌∙◌, subst, arith, is_in, listed, IsKept}
use Rattle.bcast_waiting.proofs.EventInvariant.{IsKept-tidied, IsKept-join, finds_room}
use Rattle.bcast_waiting.proofs.event.Event.join.Goals as goal
use Rattle.bcast_waiting.proofs.event.Event.join.Goals.{After-compact_if_sparse-self-inside}

-- fewer are listed than there is room for
few : (g : _) (c : After-compact_if_sparse-self-inside g) → length (listed c.self.inside.slots.ids) < c.self.inside.slots.room
few g c =
    let absent = subst (λ ids. is_in g.I.PartialEq.eq c.args.id ids ≡ false) (sym (ap (λ e. e.listeners.ids) c.self.view_is)) c.requires.absent in
    finds_room c.self.invariant g.met.I.Indexed.own c.args.id absent (omega (arith, c.requires.room, ap (λ e. e.room) c.self.view_is))

pub push-requires-clause-slots : goal.push-requires-clause-slots
push-requires-clause-slots g c =
    let t = c.compact_if_sparse-self-inside in
    omega (arith, few g (goal.at.push-requires-clause-slots g c).After-compact_if_sparse-self-inside, c.self.invariant.counted, t.ensures.few, t.ensures.room)

pub overflow_add-self : goal.overflow_add-self
overflow_add-self g c =
    omega (arith, few g (goal.at.overflow_add-self g c).After-compact_if_sparse-self-inside, c.self.invariant.counted, c.room-room.ensures, ap (λ s. s.room) c.push.ensures, c.compact_if_sparse-self-inside.ensures.room)

pub invariant_of-self : goal.invariant_of-self
invariant_of-self g c =
    let e = c.self.inside in
    let t = c.compact_if_sparse-self-inside in
    let tidied = IsKept-tidied c.self.invariant t.new.self t.result t.ensures.listed t.ensures.told t.ensures.within (omega (arith, t.ensures.room)) in
    let absent = subst (λ ids. is_in g.I.PartialEq.eq c.args.id ids ≡ false) (sym (t.ensures.listed ∙ ap (λ e. e.listeners.ids) c.self.view_is)) c.requires.absent in
    let room : g.I.Indexed.number c.args.id < t.new.self.room = omega (arith, c.requires.room, ap (λ e. e.room) c.self.view_is, t.ensures.room) in
    subst (λ s. IsKept g.I.PartialEq.eq g.I.Indexed.number s (e.len + 1) e.told t.result) (sym c.push.ensures)
    (IsKept-join tidied g.met.I.Indexed.test c.args.id absent room)
