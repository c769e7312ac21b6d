use Rattle.bcast_core.proofs.Common.{◌≡◌, false, ◌+◌, ◌≤◌, ◌++◌, length, vec_len, vec_capacity, All, opening, Represents, IsRun, end_of_run, is_receive_refused}
use Rattle.std.specs.Vec.Iter.{into_iter_items}
use Rattle.bcast_core.proofs.Runs.{AreValid}
use Rattle.bcast_core.proofs.data.run.Given as goal

abbrev pub invariant-loop-call : goal.invariant-loop-call
invariant-loop-call g l = record {
  goes : (goal.iterator-loop-call g).can_next l.call-iterator;
  finite : (goal.iterator-loop-call g).is_finite l.call-iterator;
  rest : l.yielded ++ into_iter_items l.call-iterator ≡ l.fn.calls.items;
  room : vec_len l.replies + length (into_iter_items l.call-iterator) ≤ vec_capacity l.replies;
  run : IsRun g.T.Clone.is_clone (opening l.cap l.first l.first_key) l.yielded l.replies.items;
  sure : ((msg : g.row.T.Denot) → g.T.Clone.is_infallible msg) → All (λ r. is_receive_refused r ≡ false) l.replies.items;
  represents : Represents l.channel (end_of_run (opening l.cap l.first l.first_key) l.yielded l.replies.items);
  valid : AreValid (opening l.cap l.first l.first_key) l.yielded l.replies.items;
}
