-- Each id in a slot has an entry of its own.
use Rattle.bcast_waiting.proofs.Common.{◌≡◌, ℕ, ◌+◌, ◌<◌, List, Option, None, Some, length, get_or, set, sym, ap, ◌∙◌, subst, arith, slot_id, ids_in, IsAt}
use Rattle.std.proofs.lemmas.List.{get_or-map}
use Rattle.bcast_waiting.specs.declared.slots.Listener.{Listener}
use Rattle.bcast_waiting.proofs.Indexing.{in_slot, entries_more, entries_same}
use Rattle.bcast_waiting.proofs.slots.set_positions.Goals as goal
use Rattle.bcast_waiting.proofs.slots.set_positions.Goals.{in-Some, in_default}

id_at : {I N : Type 0} (slots : List (Option (Listener I N))) (k : ℕ) (slot : Option (Listener I N)) → k < length slots → slot ≡ get_or slots k slot → get_or (ids_in slots) k None ≡ slot_id slot
id_at slots k slot within is = get_or-map slot_id slots k slot None within ∙ ap slot_id (sym is)

pub offset_bounds-positions-index : goal.offset_bounds-positions-index
offset_bounds-positions-index g c =
    let there = id_at c.args.listeners.now c.loop-position.position c.index-listeners-position.result c.loop-position-test.true c.index-listeners-position.is ∙ ap slot_id c.in-Some.is in
    let below = in_slot g.I.PartialEq.eq g.met.I.Indexed.test (λ id. g.I.Indexed.number id < length c.args.positions.now) (ids_in c.args.listeners.now) c.loop-position.position c.in-Some.listener.id c.requires.room there in
    omega (arith, below, c.index.ensures, c.loop-position.auto.positions)

pub bounds-positions-index : goal.bounds-positions-index
bounds-positions-index g c =
    let there = id_at c.args.listeners.now c.loop-position.position c.index-listeners-position.result c.loop-position-test.true c.index-listeners-position.is ∙ ap slot_id c.in-Some.is in
    let below = in_slot g.I.PartialEq.eq g.met.I.Indexed.test (λ id. g.I.Indexed.number id < length c.args.positions.now) (ids_in c.args.listeners.now) c.loop-position.position c.in-Some.listener.id c.requires.room there in
    omega (arith, below, c.index.ensures, c.loop-position.auto.positions)

pub loop-position-preserved : goal.loop-position-preserved
loop-position-preserved g c =
    let k = c.loop-position.position in
    let there = id_at c.args.listeners.now k c.index-listeners-position.result c.loop-position-test.true c.index-listeners-position.is in
    elim c.match-listeners-position.branch [
      | in-Some w ↦
          let there = there ∙ ap slot_id w.in-Some.is in
          let id = w.in-Some.listener.id in
          let below = in_slot g.I.PartialEq.eq g.met.I.Indexed.test (λ id. g.I.Indexed.number id < length c.args.positions.now) (ids_in c.args.listeners.now) k id c.requires.room there in
          let within : g.I.Indexed.number id < length c.loop-position.positions = omega (arith, below, c.loop-position.auto.positions) in
          let index : g.I.Indexed.number id ≡ w.index.result = omega (arith, within, w.index.ensures, c.match-listeners-position.auto.positions) in
          let is : set c.loop-position.positions (g.I.Indexed.number id) k ≡ c.match-listeners-position.positions = ap (λ n. set c.loop-position.positions n k) index ∙ sym w.positions-is in
          subst (λ positions. (p : ℕ) (x : g.row.I.Denot) → p < k + 1 → get_or (ids_in c.args.listeners.now) p None ≡ Some x → IsAt positions (g.I.Indexed.number x) p) is
          (entries_more g.I.PartialEq.eq g.met.I.Indexed.test g.I.Indexed.number g.met.I.Indexed.own (ids_in c.args.listeners.now) c.loop-position.positions k id c.requires.distinct within there c.loop-position.invariant)
      | in_default w ↦
          subst (λ positions. (p : ℕ) (x : g.row.I.Denot) → p < k + 1 → get_or (ids_in c.args.listeners.now) p None ≡ Some x → IsAt positions (g.I.Indexed.number x) p) (sym w.positions-is)
          (entries_same g.I.Indexed.number (ids_in c.args.listeners.now) c.loop-position.positions k (there ∙ ap slot_id w.in_default.is) c.loop-position.invariant)
    ]
