-- By the lemma.
use Rattle.bcast_history.proofs.Logged.{logs_are_accepted}
use Rattle.bcast_history.proofs.laws.logs_are_accepted.Goals as goal

pub returns : goal.returns
returns g c = record { messages = logs_are_accepted _; clones = logs_are_accepted _ }
