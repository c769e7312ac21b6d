use Rattle.std.proofs.Common.{◌≡◌, [], ◌∷◌, ◌++◌, length, length-append, append_assoc, refl, sym, ap, subst, ◌∙◌, arith, zip}
use Rattle.std.specs.Vec.Iter.{into_iter_items}
use Rattle.std.specs.List.{AllByRecursion}
use Rattle.bcast_model.proofs.Lists.{all_right}
use Rattle.bcast_core.proofs.Runs.{all_made}
use Rattle.topics.specs.Request.{OpensPositive}
use Rattle.topics.specs.Part.{AreAnswers, AreTopics}
use Rattle.topics.proofs.Parts.{exchanged}
use Rattle.topics.proofs.hub.run_hub.Goals as goal

pub ask-requires : goal.ask-requires
ask-requires g c =
    let i = c.loop-request.invariant in
    let s = c.in-Some.ensures.steps in
    let rest : c.loop-request.yielded ++ c.in-Some.request ∷ into_iter_items c.next.new.self ≡ c.args.requests.items = ap (λ xs. c.loop-request.yielded ++ xs) (sym s.0) ∙ i.rest in
    (all_right OpensPositive c.loop-request.yielded (c.in-Some.request ∷ into_iter_items c.next.new.self) (subst (AllByRecursion OpensPositive) (sym rest) c.requires)).0

pub loop-request-init : goal.loop-request-init
loop-request-init g c =
    let n = ap length c.into_iter-request-iterator.ensures.into_iter_gives.0 in
    record {
      goes = tt;
      finite = tt;
      rest = c.into_iter-request-iterator.ensures.into_iter_gives.0;
      room = omega (arith, n, c.len.ensures, c.in-Ok.ensures.len, c.in-Ok.ensures.capacity);
      count = ap length c.in-Ok.ensures.items;
      answers = tt;
      topics = λ name. (c.new-hub.ensures name, refl);
    }

pub loop-request-preserved : goal.loop-request-preserved
loop-request-preserved g c =
    let i = c.loop-request.invariant in
    let s = c.in-Some.ensures.steps in
    let more = exchanged g.T.Clone.is_clone c.loop-request.yielded c.loop-request.answers.items c.push_reserved.new.self.items c.in-Some.request c.ask.result c.loop-request.hub c.ask.new.self c.push_reserved.ensures.items i.count i.answers i.topics c.ask.ensures in
    record {
      goes = tt;
      finite = tt;
      rest = append_assoc c.loop-request.yielded (c.in-Some.request ∷ []) (into_iter_items c.next.new.self) ∙ ap (λ xs. c.loop-request.yielded ++ xs) (sym s.0) ∙ i.rest;
      room = (let n = ap length s.0 in omega (arith, n, i.room, c.push_reserved.ensures.len, c.push_reserved.ensures.capacity));
      count = ap length c.push_reserved.ensures.items ∙ omega (arith, i.count, length-append c.loop-request.answers.items (c.ask.result ∷ []), length-append c.loop-request.yielded (c.in-Some.request ∷ []));
      answers = more.0;
      topics = more.1;
    }

pub returns : goal.returns
returns g c =
    let i = c.loop-request.invariant in
    let all = all_made c.loop-request.yielded (into_iter_items c.loop-request.request-iterator) c.args.requests.items (omega (arith, c.in-None.ensures.steps.0, c.loop-request.request-iterator.rest.ok)) i.rest in
    record {
      count = i.count ∙ ap length all;
      answers = subst (λ requests. AreAnswers [] (zip requests c.loop-request.answers.items)) all i.answers;
      topics = subst (λ requests. AreTopics g.T.Clone.is_clone (zip requests c.loop-request.answers.items) c.loop-request.hub) all i.topics;
      refused = tt;
    }
