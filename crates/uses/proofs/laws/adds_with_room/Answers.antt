use Rattle.uses.proofs.Rooms.{made}
use Rattle.uses.proofs.laws.adds_with_room.Goals as goal

pub returns : goal.returns
returns g _ = λ v w key. made key
