use Rattle.bcast_core.proofs.Common.{◌≡◌, false, [], ◌∷◌, ◌++◌, length, append_assoc, refl, sym, ap, subst, ◌∙◌, arith, Legal, HasPositiveCapacity, opening, Represents, IsRun, end_of_run, is_receive_refused}
use Rattle.std.specs.Vec.Iter.{into_iter_items}
use Rattle.std.specs.List.{All, AllByRecursion}
use Rattle.std.proofs.lemmas.List.Elements.{All-push, All-nil}
use Rattle.bcast_model.proofs.Lists.{all_right}
use Rattle.bcast_model.proofs.Clones.{run_exact}
use Rattle.bcast_model.proofs.DeliveryLemmas.{deliveries_exact}
use Rattle.bcast_model.proofs.MissedLemmas.{dropped_rise, misses_dropped}
use Rattle.bcast_core.proofs.Runs.{all_made, run_more, end_more, AreValid, valid_more, valid_end, polls_wait, polls_rest}
use Rattle.bcast_core.proofs.data.run.Goals as goal

pub step-requires : goal.step-requires
step-requires g c =
    let i = c.loop-call.invariant in
    let s = c.in-Some.ensures.steps in
    let rest : c.loop-call.yielded ++ c.in-Some.call ∷ into_iter_items c.next.new.self ≡ c.args.calls.items = ap (λ xs. c.loop-call.yielded ++ xs) (sym s.0) ∙ i.rest in
    (all_right HasPositiveCapacity c.loop-call.yielded (c.in-Some.call ∷ into_iter_items c.next.new.self) (subst (AllByRecursion HasPositiveCapacity) (sym rest) c.requires.positive)).0

pub loop-call-preserved : goal.loop-call-preserved
loop-call-preserved g c =
    let i = c.loop-call.invariant in
    let a = c.step.ensures.answers in
    let s = c.in-Some.ensures.steps in
    let valid = valid_end g.T.Clone.is_clone (opening c.args.cap c.args.first c.in-Ok-starting_at.first_key) c.loop-call.yielded c.loop-call.replies.items i.run i.valid in
    let on = run_more g.T.Clone.is_clone (opening c.args.cap c.args.first c.in-Ok-starting_at.first_key) c.loop-call.yielded c.loop-call.replies.items c.in-Some.call c.step.result i.run (subst (λ v. Legal g.T.Clone.is_clone v c.in-Some.call c.step.result) i.represents a.legal) in
    let e = ap (end_of_run (opening c.args.cap c.args.first c.in-Ok-starting_at.first_key) (c.loop-call.yielded ++ c.in-Some.call ∷ [])) c.push_reserved.ensures.items
    ∙ end_more g.T.Clone.is_clone (opening c.args.cap c.args.first c.in-Ok-starting_at.first_key) c.loop-call.yielded c.loop-call.replies.items c.in-Some.call c.step.result i.run in
    record {
      goes = tt;
      finite = tt;
      rest = append_assoc c.loop-call.yielded (c.in-Some.call ∷ []) (into_iter_items c.next.new.self) ∙ ap (λ xs. c.loop-call.yielded ++ xs) (sym s.0) ∙ i.rest;
      room = (let n = ap length s.0 in omega (arith, n, i.room, c.push_reserved.ensures.len, c.push_reserved.ensures.capacity));
      run = subst (IsRun g.T.Clone.is_clone (opening c.args.cap c.args.first c.in-Ok-starting_at.first_key) (c.loop-call.yielded ++ c.in-Some.call ∷ [])) (sym c.push_reserved.ensures.items) on;
      sure = λ f. subst (All (λ r. is_receive_refused r ≡ false)) (sym c.push_reserved.ensures.items)
          (All-push (λ r. is_receive_refused r ≡ false) c.loop-call.replies.items c.step.result (i.sure f) (c.step.ensures.sure f));
      represents = subst (Represents c.step.new.inner) (sym e) (a.represents _ valid i.represents);
      valid = subst (AreValid (opening c.args.cap c.args.first c.in-Ok-starting_at.first_key) (c.loop-call.yielded ++ c.in-Some.call ∷ [])) (sym c.push_reserved.ensures.items)
          (valid_more g.T.Clone.is_clone (opening c.args.cap c.args.first c.in-Ok-starting_at.first_key) c.loop-call.yielded c.loop-call.replies.items c.in-Some.call c.step.result i.run i.valid (a.valid _ valid i.represents));
    }

pub loop-call-init : goal.loop-call-init
loop-call-init g c =
    let n = ap length c.into_iter-call-iterator.ensures.into_iter_gives.0 in
    record {
      goes = tt;
      finite = tt;
      rest = c.into_iter-call-iterator.ensures.into_iter_gives.0;
      room = omega (arith, n, c.len.ensures, c.in-Ok.ensures.len, c.in-Ok.ensures.capacity);
      run = subst (λ replies. IsRun g.T.Clone.is_clone (opening c.args.cap c.args.first c.in-Ok-starting_at.first_key) [] replies) (sym c.in-Ok.ensures.items) tt;
      sure = λ f. subst (All (λ r. is_receive_refused r ≡ false)) (sym c.in-Ok.ensures.items) (All-nil (λ r. is_receive_refused r ≡ false));
      represents = c.in-Ok-starting_at.ensures.opened;
      valid = c.in-Ok-starting_at.ensures.valid;
    }

pub returns : goal.returns
returns g c =
    let i = c.loop-call.invariant in
    let valid = c.in-Ok-starting_at.ensures.valid in
    let all = all_made c.loop-call.yielded (into_iter_items c.loop-call.call-iterator) c.args.calls.items (omega (arith, c.in-None.ensures.steps.0, c.loop-call.call-iterator.rest.ok)) i.rest in
    let run = rw all at i.run in
    record {
      replies = run;
      end = rw (← all) i.represents;
      valid = rw (← all) (valid_end g.T.Clone.is_clone _ _ _ i.run i.valid);
      deliveries = deliveries_exact g.T.Clone.is_clone _ _ _ valid run;
      dropped = dropped_rise g.T.Clone.is_clone _ _ _ valid c.requires.positive run;
      missed = misses_dropped g.T.Clone.is_clone _ _ _ valid refl c.requires.positive run;
      polls = rw (← all) (polls_wait g.T.Clone.is_clone _ _ _ i.run i.valid);
      rest = rw (← all) (polls_rest g.T.Clone.is_clone _ _ _ i.run i.valid);
      exact = λ equal. run_exact g.T.Clone.is_clone _ _ _ equal run;
      sure = i.sure;
      refused = tt;
    }
