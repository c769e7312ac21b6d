-- A told listener is not among the others.
use Rattle.std.proofs.Common.{Some}
use Rattle.bcast_waiting.proofs.Listeners.{untold_is}
use Rattle.bcast_waiting.proofs.event.Event.is_untold.Goals as goal

pub returns-in-Some : goal.returns-in-Some
returns-in-Some g c = untold_is g.I.PartialEq.eq g.met.I.Indexed.test c.args.id c.args.self.now.listeners c.invariant_holds.ensures.in_order (Some c.in-Some.told) c.in-Some.ensures
