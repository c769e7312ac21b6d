-- The entry of the id's number is the last position.
use Rattle.bcast_waiting.proofs.Common.{◌≡◌, ◌<◌, false, Some, [], ◌∷◌, ◌++◌, length, sym, ap, ◌∙◌, subst, arith, length-set, is_in, listed, slot_id, ids_in}
use Rattle.std.proofs.lemmas.List.{length-map, map-append}
use Rattle.bcast_waiting.proofs.Indexing.{IsIndexed-push}
use Rattle.bcast_waiting.proofs.slots.Slots.push.Goals as goal

pub invariant_of-self : goal.invariant_of-self
invariant_of-self g c =
    let slots = c.self.inside.listeners.items in
    let positions = c.self.inside.positions.items in
    let number = g.I.Indexed.number in
    let within : number c.args.id < length positions = subst (λ s. number c.args.id < s.room) (sym c.self.view_is) c.requires.room in
    let absent = subst (λ s. is_in g.I.PartialEq.eq c.args.id (listed s.ids) ≡ false) (sym c.self.view_is) c.requires.absent in
    let index : c.index.result ≡ number c.args.id = omega (arith, c.index.ensures, within) in
    let len : c.len.result ≡ length (ids_in slots) = omega (arith, c.len.ensures, length-map slots slot_id) in
    let ids : ids_in c.push_reserved.new.self.items ≡ ids_in slots ++ Some c.args.id ∷ [] = ap ids_in c.push_reserved.ensures.items ∙ map-append slot_id slots (Some (record { id = c.args.id; notice = c.args.notice }) ∷ []) in
    record {
      indexed = rw (ids, index, len) (IsIndexed-push g.I.PartialEq.eq g.met.I.Indexed.test number g.met.I.Indexed.own (ids_in slots) positions c.self.invariant.indexed c.args.id absent within);
      has_memory = omega (arith, c.self.invariant.has_memory, length-set positions c.index.result c.len.result, c.push_reserved.ensures.capacity);
    }
