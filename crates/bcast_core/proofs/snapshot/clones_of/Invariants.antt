-- The messages before the index are cloned, and there is room for the others.
use Rattle.std.proofs.Common.{◌≡◌, ◌≤◌, length, take, vec_len, vec_capacity}
use Rattle.std.specs.List.{AllZip}
use Rattle.bcast_core.proofs.snapshot.clones_of.Given as goal

abbrev pub invariant-loop-index : goal.invariant-loop-index
invariant-loop-index g l = record {
  len : vec_len l.clones ≡ l.index;
  room : l.index-end ≤ vec_capacity l.clones;
  end : l.index-end ≡ length l.store.queue;
  clones : AllZip g.T.Clone.is_clone (take l.index l.store.queue) l.clones.items;
}
