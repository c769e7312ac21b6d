use Rattle.uses.proofs.Rooms.{sent}
use Rattle.uses.proofs.laws.sends_with_room.Goals as goal

pub returns : goal.returns
returns g _ = λ v w msg count r. sent count r
