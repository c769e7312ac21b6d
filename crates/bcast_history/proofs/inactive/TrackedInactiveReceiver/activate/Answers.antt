-- It starts at the end.
use Rattle.std.proofs.Common.{refl, sym, ◌∙◌}
use Rattle.bcast_core.specs.declared.calls.handles.AddReceiver.TheVariants as receiver
use Rattle.bcast_history.proofs.Making.{begun_last, last_there}
use Rattle.bcast_history.proofs.Received.{reads_there}
use Rattle.bcast_history.proofs.inactive.TrackedInactiveReceiver.activate.Goals as goal

pub new-requires : goal.new-requires
new-requires g c = reads_there c.in-Ok.made (c.in-Ok.ensures.begins.next ∙ last_there _ receiver.Activate c.in-Ok.ensures.made.follows refl refl)

pub returns-in-Ok-clause-made : goal.returns-in-Ok-clause-made
returns-in-Ok-clause-made g c =
    rw c.new.ensures (c.add_receiver.new.self, sym c.in-Ok.ensures.begins.steps, c.in-Ok.ensures.made)

pub returns-in-Ok-clause-starts : goal.returns-in-Ok-clause-starts
returns-in-Ok-clause-starts g c =
    rw c.new.ensures (begun_last c.in-Ok.ensures.begins (last_there _ receiver.Activate c.in-Ok.ensures.made.follows refl refl))
