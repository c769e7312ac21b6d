-- The keys of the slots rise.
use Rattle.std.proofs.Common.{sym, subst}
use Rattle.std.proofs.lemmas.Result.{IfOk-weaker}
use Rattle.std.specs.List.Sorted.{IsStrictlyIncreasing}
use Rattle.bcast_waiting.proofs.Keys.{keys_rise}
use Rattle.bcast_waiting.proofs.places.Places.items.Goals as goal

pub returns-clause-rising : goal.returns-clause-rising
returns-clause-rising g c =
    IfOk-weaker c.keys_of.result _ _ (λ keys is. subst IsStrictlyIncreasing (sym is) (keys_rise c.self.inside.slots)) c.keys_of.ensures
