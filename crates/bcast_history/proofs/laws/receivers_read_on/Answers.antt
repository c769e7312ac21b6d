-- By the lemma.
use Rattle.bcast_history.proofs.Sent.{read_on}
use Rattle.bcast_history.proofs.laws.receivers_read_on.Goals as goal

pub returns : goal.returns
returns g c = read_on g.T.Clone.is_clone
