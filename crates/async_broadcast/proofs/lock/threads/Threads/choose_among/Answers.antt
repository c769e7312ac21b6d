-- The states between the three choices.
use Rattle.async_broadcast.proofs.lock.threads.Threads.choose_among.Goals as goal

pub returns-clause-chosen : goal.returns-clause-chosen
returns-clause-chosen g c = (
  c.choose_sender-sender.new.self,
  c.move_receivers.new.self,
  c.choose_sender-sender.ensures.chosen,
  c.move_receivers.ensures.moved,
  c.choose_receivers-receivers.ensures.chosen,
)
