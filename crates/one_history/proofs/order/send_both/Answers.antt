-- Both sends were accepted.
use Rattle.std.proofs.Common.{sym, ◌∙◌}
use Rattle.one_history.proofs.Sent.{in_order}
use Rattle.one_history.proofs.order.send_both.Goals as goal

pub returns-then-is_ok : goal.returns-then-is_ok
returns-then-is_ok g c = λ both.
    in_order c.sends_stand_last.ensures c.try_broadcast.ensures.follows c.try_broadcast-then-is_ok.ensures.follows
    (sym c.is_ok.ensures.value ∙ c.if-is_ok.true) (sym c.is_ok-then-is_ok.ensures.value ∙ both)
