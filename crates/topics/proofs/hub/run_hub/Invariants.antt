use Rattle.std.proofs.Common.{◌≡◌, [], ◌++◌, length, ◌+◌, ◌≤◌, vec_len, vec_capacity, zip}
use Rattle.std.specs.Vec.Iter.{into_iter_items}
use Rattle.topics.specs.Part.{AreAnswers, AreTopics}
use Rattle.topics.proofs.hub.run_hub.Given as goal

abbrev pub invariant-loop-request : goal.invariant-loop-request
invariant-loop-request g l = record {
  goes : (goal.iterator-loop-request g).can_next l.request-iterator;
  finite : (goal.iterator-loop-request g).is_finite l.request-iterator;
  rest : l.yielded ++ into_iter_items l.request-iterator ≡ l.fn.requests.items;
  room : vec_len l.answers + length (into_iter_items l.request-iterator) ≤ vec_capacity l.answers;
  count : length l.answers.items ≡ length l.yielded;
  answers : AreAnswers [] (zip l.yielded l.answers.items);
  topics : AreTopics g.T.Clone.is_clone (zip l.yielded l.answers.items) l.hub;
}
