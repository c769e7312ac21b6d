use Rattle.uses.proofs.Rooms.{cloned}
use Rattle.uses.proofs.laws.clones_with_room.Goals as goal

pub returns : goal.returns
returns g _ = λ v w original key. cloned original key
