use Rattle.bcast_history.proofs.Chains.{notes_begin}
use Rattle.bcast_history.proofs.journal.Prefix.learn.Goals as goal

pub returns-clause-longer : goal.returns-clause-longer
returns-clause-longer g c = rw (← c.self.view_is) (notes_begin g.J.Named.book.first c.self.inside.seen.log c.learn.new.self.log c.learn.ensures.2)

pub returns-clause-other : goal.returns-clause-other
returns-clause-other g c = rw (← c.other.view_is) (notes_begin g.J.Named.book.first c.other.inside.seen.log c.learn.new.self.log c.learn.ensures.3)
