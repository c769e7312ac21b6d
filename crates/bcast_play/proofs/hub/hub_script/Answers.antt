-- The run begins with the topics of the hub, and without names.
use Rattle.std.proofs.Common.{refl}
use Rattle.topics.specs.Hub.{topic_of}
use Rattle.bcast_play.specs.Shown.{follower_of, followed_of}
use Rattle.bcast_play.proofs.hub.hub_script.Goals as goal

pub returns : goal.returns
returns g c unfailed = (
  record { topic_of = topic_of c.args.hub; follower_of = follower_of c.new.result },
  followed_of c.run_lines.new.program,
  record { topics_are = λ name. refl; names = λ name. rw c.new.ensures.empty refl },
  c.run_lines.ensures unfailed,
)
