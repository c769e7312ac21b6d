use Rattle.uses.proofs.Rooms.{opened}
use Rattle.uses.proofs.laws.opens_with_room.Goals as goal

pub returns : goal.returns
returns g _ = opened
