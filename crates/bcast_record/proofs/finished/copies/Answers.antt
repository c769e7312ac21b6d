use Rattle.std.proofs.Common.{map, [], ◌∷◌, ◌++◌, ap, ◌∙◌, arith, take_all}
use Rattle.bcast_record.specs.declared.entry.Entry.{Entry}
use Rattle.bcast_record.proofs.Copies.{calls_more}
use Rattle.bcast_record.proofs.finished.copies.Goals as goal

pub push_reserved-requires : goal.push_reserved-requires
push_reserved-requires g c = omega arith

pub loop-entry-preserved : goal.loop-entry-preserved
loop-entry-preserved g c = record {
  copied = c.push_reserved.ensures.items ∙ (λ i. c.loop-entry.invariant.copied i ++ c.in_ok-copy_of_call.field-0 ∷ [])
      ∙ calls_more c.args.entries.now c.loop-entry.entry-index c.entry-item.result c.in_ok-copy_of_call.field-0 c.loop-entry-test.true c.entry-item.is c.in_ok-copy_of_call.ensures;
  room = omega (arith, c.push_reserved.ensures.len, c.push_reserved.ensures.capacity);
}

pub returns : goal.returns
returns g c = c.loop-entry.invariant.copied ∙ ap (map (λ (e : Entry g.row.T.Denot). e.call)) (take_all c.loop-entry.entry-index c.args.entries.now c.loop-entry-test.false)
