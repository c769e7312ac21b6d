-- The messages so far are last.
use Rattle.std.proofs.Common.{◌≡◌, ◌++◌}
use Rattle.std.specs.Vec.Iter.{into_iter_items}
use Rattle.bcast_store.proofs.Store.push_all.Given as goal

abbrev pub invariant-loop-msg : goal.invariant-loop-msg
invariant-loop-msg g l = record {
  goes : (goal.iterator-loop-msg g).can_next l.msg-iterator;
  finite : (goal.iterator-loop-msg g).is_finite l.msg-iterator;
  rest : l.yielded ++ into_iter_items l.msg-iterator ≡ l.fn.msgs;
  put : l.self ≡ record l.initial.self { queue = l.initial.self.queue ++ l.yielded };
}
