-- Both are all that the channel had accepted.
use Rattle.std.proofs.Common.{sym, ap, ◌∙◌}
use Rattle.bcast_history.proofs.Closed.{agree}
use Rattle.bcast_history.proofs.log.WholeLog.agrees_with.Goals as goal

pub returns : goal.returns
returns g c = λ equal.
    let longer = rw c.same-both.ensures at c.learn.ensures.longer in
    sym (ap (λ l. l.list) c.self.view_is)
    ∙ agree equal c.learn.new.self longer c.learn.ensures.other c.self.invariant c.other.invariant
    ∙ ap (λ l. l.list) c.other.view_is
