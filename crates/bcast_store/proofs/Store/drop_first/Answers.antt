-- The first messages are dropped.
use Rattle.std.proofs.Common.{arith}
use Rattle.bcast_store.proofs.Dropping.{dropped_more}
use Rattle.bcast_store.proofs.Store.drop_first.Goals as goal

pub loop-index-preserved : goal.loop-index-preserved
loop-index-preserved g c =
    let e = c.pop.ensures in
    dropped_more c.loop-index._index c.args.self.now c.loop-index.self c.pop.new.self c.pop.result c.loop-index.invariant (omega (arith, c.loop-index-test.true, c.requires)) e.oldest e.rest e.empty
