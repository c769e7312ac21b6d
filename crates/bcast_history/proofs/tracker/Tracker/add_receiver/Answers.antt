-- The receiver's caller knows as much, under its key.
use Rattle.std.proofs.Common.{Ok, sym, subst}
use Rattle.bcast_core.specs.Calls.{receiver_call, receiver_reply}
use Rattle.bcast_history.specs.Makes.{MakesCall}
use Rattle.bcast_history.proofs.Making.{makes_by}
use Rattle.bcast_history.proofs.tracker.Tracker.add_receiver.Goals as goal

pub invariant_of-result : goal.invariant_of-result
invariant_of-result g c = rw c.in_ok-_key.ensures.begins.steps (g.met.P.HistoryPort.follows _ _ _ _ c.in_ok-_key.ensures.learned).follows.lawful

pub invariant_of-self-2 : goal.invariant_of-self-2
invariant_of-self-2 g c = (g.met.P.HistoryPort.follows _ _ _ _ c.in_ok-_key.ensures.learned).follows.lawful

pub returns-clause-made : goal.returns-clause-made
returns-clause-made g c =
    subst (λ key. MakesCall g.P.Ask.learns g.T.Clone.is_clone g.J.Channel.opening c.args.self.now (receiver_call c.args.call) (receiver_reply c.args.call (Ok key)) c.add_receiver.new.caller)
    (sym c.in_ok-_key.ensures.begins.key) (makes_by g.met.P.HistoryPort.follows c.self.view_is c.in_ok-_key.ensures.learned)
