-- One more request.
use Rattle.std.proofs.Common.{[], ◌∷◌, subst, sym}
use Rattle.std.specs.List.{AllByRecursion}
use Rattle.bcast_model.proofs.Lists.{all_append}
use Rattle.topics.specs.Request.{OpensPositive}
use Rattle.test_uses.proofs.hubs.asked.list_of.Goals as goal

pub loop-row-preserved : goal.loop-row-preserved
loop-row-preserved g c =
    subst (AllByRecursion OpensPositive) (sym c.in_ok-push.ensures.items)
    (all_append OpensPositive c.loop-row.list.items (c.in_ok-request.field-0 ∷ []) c.loop-row.invariant (c.in_ok-request.ensures, tt))
