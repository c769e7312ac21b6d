-- The marks of the whole list.
use Rattle.std.proofs.lemmas.List.{take_all}
use Rattle.bcast_text.proofs.Marks.{marked}
use Rattle.bcast_text.proofs.threads.mark_all.Goals as goal

pub returns-clause-marked : goal.returns-clause-marked
returns-clause-marked c n within =
    let all = take_all c.loop-number.number-index c.args.list.now c.loop-number-test.false in
    rw (c.loop-number.invariant, all) (marked c.args.list.now c.args.held.now n within)
