use Rattle.topics.proofs.Topics.{is_new}
use Rattle.topics.proofs.hub.new_topic.Goals as goal

pub returns-in-Ok : goal.returns-in-Ok
returns-in-Ok g c = is_new (rw c.in-Ok.is at c.deactivate.ensures) c.in_ok-topic.ensures.opened
