-- What is returned is possible; and if a clone equals its original, no reply needs that a clone may differ.
use Rattle.std.proofs.Common.{refl}
use Rattle.bcast_model.proofs.Answers.{possible}
use Rattle.bcast_model.proofs.Clones.{answers_exact}
use Rattle.bcast_core.proofs.data.step.Goals as goal

pub returns-clause-possible : goal.returns-clause-possible
returns-clause-possible g c = possible refl c.in-Ok.ensures.answers

pub returns-clause-exact : goal.returns-clause-exact
returns-clause-exact g c equal = answers_exact equal c.in-Ok.ensures.answers
