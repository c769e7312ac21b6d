-- By the lemma.
use Rattle.bcast_history.proofs.Sent.{stands_last}
use Rattle.bcast_history.proofs.laws.sends_stand_last.Goals as goal

pub returns : goal.returns
returns g c = stands_last g.T.Clone.is_clone
