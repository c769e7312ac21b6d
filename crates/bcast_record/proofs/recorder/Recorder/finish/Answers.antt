use Rattle.std.proofs.Common.{ap, ◌∙◌}
use Rattle.bcast_model.proofs.Clones.{run_exact}
use Rattle.bcast_history.specs.History.{start_of, replies_of}
use Rattle.bcast_record.specs.Replay.{calls_of, steps_of}
use Rattle.bcast_record.proofs.recorder.Recorder.finish.Goals as goal

pub returns-clause-opening : goal.returns-clause-opening
returns-clause-opening g c = c.finish.ensures.opening c.self.inside.opening c.self.invariant.1 ∙ ap (λ s. s.opening) c.self.view_is

pub returns-clause-exact : goal.returns-clause-exact
returns-clause-exact g c = λ equal.
    let r = c.finish.result in
    run_exact g.T.Clone.is_clone (start_of r.opening) (calls_of r) (replies_of (steps_of r)) equal c.finish.ensures.run
