-- Both are of one log, in which nothing of the chain comes after its end.
use Rattle.std.proofs.Common.{subst}
use mathlib.Core.List.{IsPrefix}
use Rattle.bcast_history.specs.Book.{notes_of}
use Rattle.bcast_history.proofs.Chains.{notes_begin, as_it_ended}
use Rattle.bcast_history.proofs.journal.Whole.compare.Goals as goal

pub returns : goal.returns
returns g c =
    let both = c.learn.ensures in
    let first = g.J.Named.book.first in
    let log = c.self.inside.seen.log in
    let known = c.beginning.inside.seen.log in
    let all = c.learn.new.self.log in
    let whole : IsPrefix log all = subst (λ (s : _). IsPrefix s.log all) c.again-both.ensures both.2 in
    let same = as_it_ended first log all c.self.invariant.1 whole both.4.1.once in
    rw (← c.self.view_is, ← c.beginning.view_is) (subst (IsPrefix (notes_of first known)) same (notes_begin first known all both.3))
