-- It starts at the end.
use Rattle.std.proofs.Common.{refl, ◌∙◌}
use Rattle.bcast_core.specs.declared.calls.handles.AddReceiver.TheVariants as receiver
use Rattle.bcast_history.proofs.Making.{begun_last, last_there}
use Rattle.bcast_history.proofs.Received.{reads_there}
use Rattle.bcast_history.proofs.sender.TrackedSender.new_receiver.Goals as goal

pub new-requires : goal.new-requires
new-requires g c =
    let made = c.in_ok-tracker.ensures in
    reads_there c.in_ok-tracker.tracker (made.begins.next ∙ last_there _ receiver.New made.made.follows refl refl)

pub returns-clause-starts : goal.returns-clause-starts
returns-clause-starts g c =
    let made = c.in_ok-tracker.ensures in
    rw c.new.ensures (begun_last made.begins (last_there _ receiver.New made.made.follows refl refl))
