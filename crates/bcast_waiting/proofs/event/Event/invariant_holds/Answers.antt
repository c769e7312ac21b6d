-- Those that are listed have numbers below the room.
use Rattle.std.proofs.Common.{◌≤◌, length, subst}
use Rattle.bcast_waiting.proofs.EventInvariant.{fits}
use Rattle.bcast_waiting.proofs.event.Event.invariant_holds.Goals as goal

pub returns-clause-fits : goal.returns-clause-fits
returns-clause-fits g c = subst (λ e. length e.listeners.ids ≤ e.room) c.self.view_is (fits c.self.invariant g.met.I.Indexed.own)
