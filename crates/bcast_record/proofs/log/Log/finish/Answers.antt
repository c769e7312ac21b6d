use Rattle.std.proofs.Common.{◌≡◌, Some, slice_get, sym, ap, ◌∙◌, arith}
use Rattle.bcast_record.specs.declared.entry.Note.TheVariants as note
use Rattle.bcast_record.specs.Recording.{notes_of}
use Rattle.bcast_record.proofs.Entries.{found_there}
use Rattle.bcast_record.proofs.log.Log.finish.Goals as goal

pub returns-clause-opening : goal.returns-clause-opening
returns-clause-opening g c = λ opening at.
    let here = c.self.inside.opening in
    let all : c.end-journal.result ≡ notes_of here c.self.inside.entries.items = c.end-journal.ensures ∙ c.self.invariant.1 in
    let same : Some (note.Opened here) ≡ Some (note.Opened opening) = ap (λ notes. slice_get notes 0) (sym all) ∙ found_there _ _ c.compare.ensures 0 (note.Opened opening) at in
    cc same

pub returns-clause-count : goal.returns-clause-count
returns-clause-count g c =
    let whole : c.gather.result.parts ≡ g.R.Ledger.parts = omega (arith, c.gather.ensures.parts, c.gather.ensures.apart, c.requires) in
    omega (arith, c.self.inside.entries.ok, c.self.invariant.2, c.audit.ensures.whole whole, c.gather.ensures.amount)
