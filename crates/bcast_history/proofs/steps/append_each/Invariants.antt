use Rattle.std.proofs.Common.{◌≡◌, ◌<◌, ◌++◌, map, take}
use mathlib.Core.List.{IsPrefix}
use Rattle.bcast_history.specs.Batch.{received}
use Rattle.bcast_history.proofs.steps.append_each.Given as goal

abbrev pub invariant-loop-msg : goal.invariant-loop-msg
invariant-loop-msg g l =
    (l.writer ≡ l.initial.writer ++ map (received l.key) (take l.msg-index l.msgs)) × (l.msg-index ≡ 0 → l.known ≡ l.initial.known)
    × (0 < l.msg-index → l.known ≡ l.writer) × (0 < l.msg-index → IsPrefix l.initial.known l.initial.writer)
