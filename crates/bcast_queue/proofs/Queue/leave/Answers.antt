-- A reader leaves, and the messages that only it owed are dropped.
use Rattle.std.proofs.Common.{◌<◌, get_or, length, ap, sym, ◌∙◌, arith, sum, length-drop, rules}
use Rattle.std.proofs.lemmas.Grind.{common_steps}
use Rattle.std.specs.List.{prefix_len}
use Rattle.std.proofs.lemmas.List.{length-map}
use Rattle.bcast_queue.specs.Entries.{counts, messages, next_of, message_of}
use Rattle.bcast_queue.proofs.Owed.{nobody}
use Rattle.bcast_queue.proofs.OwedBy.{RisesFrom-owed_by}
use Rattle.bcast_queue.proofs.Unowed.{AreUnowed-front, AreLeft, AreLeft-set}
use Rattle.bcast_queue.proofs.Queues.{IsQueue-seen, reader_at, sound-kept, left_at_end, left_behind, left_front, same_queue}
use Rattle.bcast_queue.proofs.Queue.leave.Goals as goal
use Rattle.bcast_queue.proofs.Queue.leave.Goals.{Else-index-len, After-change_at-next}

pub returns-then-index-len-clause-left : goal.returns-then-index-len-clause-left
returns-then-index-len-clause-left g c =
    let is = IsQueue-seen _ _ _ _ c.args.self.now c.self.invariant c.self.view_is in
    let long = ap (λ q. length q.messages) c.self.view_is in
    left_at_end c.args.self.now c.args.index is (omega (arith, sym long, c.if-index-len.true, c.len.ensures.len, length-map c.self.inside.ring.items message_of))

reader : (g : _) (c : Else-index-len g) → 0 < get_or (counts c.self.inside.ring) c.args.index 0
reader g c =
    let inside : c.args.index < length c.self.inside.ring.items = omega (arith, c.if-index-len.false, c.len.ensures.len) in
    reader_at _ _ _ c.self.inside.ring c.args.self.now c.args.index c.self.invariant c.self.view_is inside c.requires.owed

pub change_at-next-requires-clause-enough : goal.change_at-next-requires-clause-enough
change_at-next-requires-clause-enough g c = reader g (goal.at.change_at-next-requires-clause-enough g c).Else-index-len

-- the counts without the reader
fewer : (g : _) (c : After-change_at-next g) → 0 < get_or (counts c.self.inside.ring) c.args.index 0
    → AreLeft c.self.inside.total c.args.index (counts c.self.inside.ring) (counts c.change_at-next.new.ring)
fewer g c some =
    AreLeft-set _ _ c.change_at-next.result _ _ c.self.invariant.counted
    (omega (arith, c.if-index-len.false, c.len.ensures.len, length-map c.self.inside.ring.items next_of))
    (omega (arith, some, c.change_at-next.ensures.value))
    c.change_at-next.ensures.counts

pub invariant_of-self : goal.invariant_of-self
invariant_of-self g c =
    let at = goal.at.invariant_of-self g c in
    let left = c.change_at-next.new.ring in
    let k = prefix_len nobody (counts left) in
    let unowed = AreUnowed-front (counts left) in
    let is = c.drop_unowed.ensures.counts in
    sound-kept _ _ _ _ _ c.self.inside.ring c.drop_unowed.new.ring c.self.invariant
    (record {
      summed = omega (arith, (fewer g at.After-change_at-next (reader g at.Else-index-len)).summed, unowed.summed, ap sum is);
      owed = λ some. let first = unowed.first (omega (arith, some, ap length is)) in omega (arith, first, ap (λ ns. get_or ns 0 0) is);
    })
    c.drop_unowed.ensures.numbered
    (omega (arith, ap length c.drop_unowed.ensures.messages, length-drop k (messages left), ap length c.change_at-next.ensures.messages))
    (c.drop_unowed.ensures.capacity ∙ c.change_at-next.ensures.capacity)

pub invariant_of-self-else-index-eq0 : goal.invariant_of-self-else-index-eq0
invariant_of-self-else-index-eq0 g c = grind (arith, common_steps, fewer, reader, sound-kept, length-map)

pub returns-then-index-eq0-clause-left : goal.returns-then-index-eq0-clause-left
returns-then-index-eq0-clause-left g c = search (rules, same_queue, fewer, reader, AreUnowed-front, left_front)

pub returns-else-index-eq0-clause-left : goal.returns-else-index-eq0-clause-left
returns-else-index-eq0-clause-left g c = grind (arith, common_steps, fewer, reader, same_queue, left_behind, RisesFrom-owed_by)
