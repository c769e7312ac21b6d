-- Whether the slot is in the told part.
use Rattle.bcast_waiting.proofs.Common.{ap, ◌∙◌, is_told}
use Rattle.bcast_waiting.proofs.EventInvariant.{is_told_at}
use Rattle.bcast_waiting.proofs.event.Event.is_told.Goals as goal

pub returns : goal.returns
returns g c =
    is_told_at c.self.invariant g.met.I.Indexed.test c.args.id c.in-Some.position c.in-Some.ensures
    ∙ ap (λ e. is_told g.I.PartialEq.eq c.args.id e.listeners) c.self.view_is
