-- What is gone at a point of a run was dropped before it, and what is gone later, since.
use Rattle.bcast_model.proofs.MissedLemmas.{deliveries_tile}
use Rattle.bcast_laws.proofs.deliveries.deliveries_tile.Goals as goal

pub returns : goal.returns
returns g _ = λ h calls replies key start later later_replies valid allowed run allowed_later run_later is.
    deliveries_tile g.T.Clone.is_clone h calls replies key start later later_replies valid allowed run allowed_later run_later is
