use Rattle.std.proofs.Common.{ap}
use Rattle.bcast_core.proofs.Rooms.{place_freed}
use Rattle.bcast_core.proofs.parts.Parts.place_ended.Goals as goal

pub invariant_of-self : goal.invariant_of-self
invariant_of-self g c = place_freed c.self.inside.places c.remove.new.self c.args.place c.self.inside.sends.room c.abandon.new.self.room c.remove.ensures.rest (ap (λ e. e.room) c.abandon.ensures) c.self.invariant
