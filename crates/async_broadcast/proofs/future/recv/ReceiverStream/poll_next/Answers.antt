-- The item is the message that the port gave.
use Rattle.std.proofs.Common.{rules, refl}
use Rattle.async_broadcast.proofs.future.recv.ReceiverStream.poll_next.Goals as goal

pub returns-in-Ok-Ready-Some-clause-value : goal.returns-in-Ok-Ready-Some-clause-value
returns-in-Ok-Ready-Some-clause-value g c = (tt, (c.in-Ok-Ready-Some.next, refl, search rules))

pub returns-in-Ok-Ready-Some-clause-rest : goal.returns-in-Ok-Ready-Some-clause-rest
returns-in-Ok-Ready-Some-clause-rest g c xs last comes =
    (((c.in-Ok-Ready-Some.next, refl, search rules), comes.0), comes.1)
