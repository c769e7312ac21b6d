-- The first receiver starts with the first message, and its cursor is claimed.
use Rattle.std.proofs.Common.{ap, ◌∙◌, refl}
use Rattle.bcast_history.specs.History.{start_of}
use Rattle.bcast_history.proofs.Claimed.{first_claimed}
use Rattle.bcast_history.proofs.Added.{first_tracked}
use Rattle.bcast_history.proofs.opened.broadcast.Goals as goal

pub new-caller-requires-clause-there : goal.new-caller-requires-clause-there
new-caller-requires-clause-there g c =
    first_tracked (ap (λ o. o.opening) c.opened.view_is ∙ c.requires.1) (c.prefix.ensures ∙ c.into_writer-writer.ensures)

pub new-steps-requires-clause-cursors : goal.new-steps-requires-clause-cursors
new-steps-requires-clause-cursors g c =
    let is = ap (λ o. o.opening) c.opened.view_is ∙ c.requires.1 in
    first_claimed (start_of {T = g.row.T.Denot} g.J.Channel.opening).control _ c.opened.invariant.2 c.new-caller.ensures.registry.1
    (first_tracked {T = g.row.T.Denot} is refl)
