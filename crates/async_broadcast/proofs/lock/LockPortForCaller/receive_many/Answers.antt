-- The lock is held: so the channel's receives are those that the caller learned of.
use Rattle.std.proofs.Common.{arith}
use Rattle.std.proofs.lemmas.Grind.{common_steps}
use Rattle.async_broadcast.proofs.Batches.{into_possible}
use Rattle.async_broadcast.proofs.lock.LockPortForCaller.receive_many.Goals as goal

pub returns-in-Some-choose_woken-clause-received : goal.returns-in-Some-choose_woken-clause-received
returns-in-Some-choose_woken-clause-received g c =
    into_possible g.T.Clone.is_clone g.J.CallJournal.learns c.args.key _ c.receive_many-count.ensures.received (grind (arith, common_steps)) c.append_receives.ensures.learned

pub returns-in_default-clause-received : goal.returns-in_default-clause-received
returns-in_default-clause-received g c =
    into_possible g.T.Clone.is_clone g.J.CallJournal.learns c.args.key _ c.receive_many-count.ensures.received (grind (arith, common_steps)) c.append_receives.ensures.learned
