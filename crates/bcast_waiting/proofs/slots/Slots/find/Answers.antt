-- The entry of the id's number is its position, if it is listed.
use Rattle.bcast_waiting.proofs.Common.{◌≡◌, ◌≤◌, false, length, subst, arith, rules, get_or_default_zero, is_in, listed, ids_in}
use Rattle.bcast_waiting.proofs.Indexing.{absent_beyond, absent_there}
use Rattle.bcast_waiting.proofs.slots.Slots.find.Goals as goal

pub returns-then-index-len : goal.returns-then-index-len
returns-then-index-len g c =
    let past : length c.self.inside.positions.items ≤ g.I.Indexed.number c.args.id = omega (arith, c.index-index.ensures, c.if-index-len.true, c.len.ensures) in
    subst (λ s. is_in g.I.PartialEq.eq c.args.id (listed s.ids) ≡ false) c.self.view_is
    (absent_beyond g.I.PartialEq.eq g.met.I.Indexed.test g.I.Indexed.number g.met.I.Indexed.own (ids_in c.self.inside.listeners.items) c.self.inside.positions.items c.self.invariant.indexed c.args.id past)

pub returns-else-has : goal.returns-else-has
returns-else-has g c = search (rules, get_or_default_zero, absent_there)
