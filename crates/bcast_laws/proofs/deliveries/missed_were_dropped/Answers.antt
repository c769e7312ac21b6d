-- What is gone at the end of a run was dropped, and is under the floor.
use Rattle.bcast_model.proofs.MissedLemmas.{tells_dropped}
use Rattle.bcast_laws.proofs.deliveries.missed_were_dropped.Goals as goal

pub returns : goal.returns
returns g _ = λ h calls replies key cursor c r valid allowed run is legal. tells_dropped g.T.Clone.is_clone h calls replies key cursor c r valid allowed run is legal
