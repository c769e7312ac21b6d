-- The reply to the last try is one that the channel may give.
use Rattle.async_broadcast.proofs.lock.LockPortForCaller.send_waiting.Goals as goal

pub returns-clause-gave : goal.returns-clause-gave
returns-clause-gave g c = rw c.answer_of_send.ensures c.make_until.ensures.reply
