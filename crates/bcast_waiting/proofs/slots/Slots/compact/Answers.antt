-- The slots that are not empty stay.
use Rattle.bcast_waiting.proofs.Common.{◌≡◌, ◌<◌, map, is_some, Some, length, sym, ap, ◌∙◌, subst, rules, arith, common_steps, listed, ids_in}
use Rattle.std.proofs.lemmas.List.{with_items_is}
use Rattle.std.specs.List.{AllByRecursion}
use Rattle.std.proofs.lemmas.Fn.{filter_same}
use Rattle.bcast_waiting.proofs.InSlots.{ids-compacted, listed_full}
use Rattle.bcast_waiting.proofs.slots.Slots.compact.Goals as goal
use Rattle.bcast_waiting.proofs.slots.Slots.compact.Goals.{After-retain}

kept : (g : _) (c : After-retain g) → ids_in c.retain.new.self.items ≡ map Some (listed (ids_in c.self.inside.listeners.items))
kept g c =
    let items = c.self.inside.listeners.items in
    ap ids_in (filter_same _ is_some _ (λ x b f k. search rules) items c.retain.new.self.items c.retain.ensures.filtered) ∙ ids-compacted items

listed_then : (g : _) (c : After-retain g) → listed c.args.self.now.ids ≡ listed (ids_in c.retain.new.self.items)
listed_then g c = grind (arith, common_steps, kept, listed_full)

pub set_positions-requires-clause-distinct : goal.set_positions-requires-clause-distinct
set_positions-requires-clause-distinct g c = grind (arith, common_steps, listed_then)

pub set_positions-requires-clause-room : goal.set_positions-requires-clause-room
set_positions-requires-clause-room g c =
    let same = listed_then g (goal.at.set_positions-requires-clause-room g c).After-retain ∙ ap (λ xs. listed (ids_in xs)) (sym c.deref.ensures.value) in
    let room : c.args.self.now.room ≡ length c.deref_mut.result.now = ap (λ s. s.room) (sym c.self.view_is) ∙ ap length (sym c.deref_mut.ensures.value) in
    subst (λ n. AllByRecursion (λ id. g.I.Indexed.number id < n) (listed (ids_in c.deref.result.now))) room
    (subst (AllByRecursion (λ id. g.I.Indexed.number id < c.args.self.now.room)) same c.requires.room)

pub returns : goal.returns
returns g c = grind (arith, common_steps, with_items_is, kept)
