-- Some numbers are read, and the rest is left.
use Rattle.std.proofs.Common.{length}
use denote.Shadow.{shadow}
use denote.Text.{Utf8}
use Rattle.bcast_text.proofs.NumberLists.{AreRead}
use Rattle.bcast_text.proofs.number.numbers.Given as goal

abbrev pub invariant-loop-first : goal.invariant-loop-first
invariant-loop-first l = AreRead l.text l.msgs.items l.rest × shadow (Utf8 l.rest)

abbrev pub decreases-loop-first : goal.decreases-loop-first
decreases-loop-first l = length l.rest
