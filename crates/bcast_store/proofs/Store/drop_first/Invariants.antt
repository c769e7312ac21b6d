-- As many messages as the loop has counted are gone.
use Rattle.std.proofs.Common.{◌≡◌}
use Rattle.bcast_store.proofs.Dropping.{dropped}
use Rattle.bcast_store.proofs.Store.drop_first.Given as goal

abbrev pub invariant-loop-index : goal.invariant-loop-index
invariant-loop-index g l = l.self ≡ dropped l._index l.initial.self
