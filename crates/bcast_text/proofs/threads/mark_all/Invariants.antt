-- The marks so far.
use Rattle.std.proofs.Common.{◌≡◌, take, fold}
use Rattle.bcast_text.proofs.Marks.{with_mark}
use Rattle.bcast_text.proofs.threads.mark_all.Given as goal

abbrev pub invariant-loop-number : goal.invariant-loop-number
invariant-loop-number l = l.held ≡ fold with_mark l.initial.held (take l.number-index l.list)
