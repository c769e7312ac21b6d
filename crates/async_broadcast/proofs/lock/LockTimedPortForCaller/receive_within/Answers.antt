-- The reply to the last try is one that the channel may give.
use Rattle.async_broadcast.proofs.lock.LockTimedPortForCaller.receive_within.Goals as goal

pub returns-clause-gave : goal.returns-clause-gave
returns-clause-gave g c = rw c.received_in_time.ensures c.make_until.ensures.reply
