use Rattle.std.proofs.lemmas.Result.{IfOk-weaker}
use Rattle.uses.proofs.Configs.{watches}
use Rattle.uses.proofs.config_watcher.Config.watch.Goals as goal

pub invariant_of-self : goal.invariant_of-self
invariant_of-self g c = (watches c.new_receiver.ensures c.self.invariant).0

pub returns-clause-watcher : goal.returns-clause-watcher
returns-clause-watcher g c = rw (← c.self.view_is) (IfOk-weaker c.new_receiver.result _ _ (λ made s. s.0) (watches c.new_receiver.ensures c.self.invariant).1)

pub returns-clause-others : goal.returns-clause-others
returns-clause-others g c = rw (← c.self.view_is) (IfOk-weaker c.new_receiver.result _ _ (λ made s. s.1) (watches c.new_receiver.ensures c.self.invariant).1)
