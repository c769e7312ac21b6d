-- The clone has the cursor of its original.
use Rattle.bcast_laws.proofs.Answers.{clone_alike}
use Rattle.bcast_laws.proofs.clones_answer_alike.Goals as goal

pub returns : goal.returns
returns g _ = λ h key fresh r valid legal. clone_alike g.T.Clone.is_clone h key fresh r valid legal
