use Rattle.uses.proofs.Hubs.{opened_hub}
use Rattle.uses.proofs.event_hub.EventHub.over.Goals as goal

pub returns : goal.returns
returns g c = (opened_hub c.in_ok-deactivate.ensures c.requires).1
