use Rattle.std.proofs.lemmas.Result.{IfOk-weaker}
use Rattle.uses.proofs.LogCalls.{adds}
use Rattle.uses.proofs.log_fan_out.Log.add_reader.Goals as goal

pub invariant_of-self : goal.invariant_of-self
invariant_of-self c = (adds c.clone_receiver.ensures c.self.invariant).0

pub returns-clause-added : goal.returns-clause-added
returns-clause-added c = rw (← c.self.view_is) (IfOk-weaker c.clone_receiver.result _ _ (λ made s. s.starts) (adds c.clone_receiver.ensures c.self.invariant).2)

pub returns-clause-others : goal.returns-clause-others
returns-clause-others c = rw (← c.self.view_is) (IfOk-weaker c.clone_receiver.result _ _ (λ made s. s.others) (adds c.clone_receiver.ensures c.self.invariant).2)

pub returns-clause-reader : goal.returns-clause-reader
returns-clause-reader c = IfOk-weaker c.clone_receiver.result _ _ (λ made s. s.reader) (adds c.clone_receiver.ensures c.self.invariant).2

pub returns-clause-fresh : goal.returns-clause-fresh
returns-clause-fresh c = rw (← c.self.view_is) (IfOk-weaker c.clone_receiver.result _ _ (λ made s. s.fresh) (adds c.clone_receiver.ensures c.self.invariant).2)

pub returns-clause-readers : goal.returns-clause-readers
returns-clause-readers c = rw (← c.self.view_is) (adds c.clone_receiver.ensures c.self.invariant).1
