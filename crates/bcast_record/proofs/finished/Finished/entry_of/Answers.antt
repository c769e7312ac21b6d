use Rattle.std.proofs.Common.{◌≡◌, suc, Some, slice_get, sym, ◌∙◌, ap}
use Rattle.std.proofs.lemmas.Option.{get_or_from_slice_get}
use Rattle.bcast_record.specs.declared.entry.Note.TheVariants as note
use Rattle.bcast_record.specs.Recording.{notes_of}
use Rattle.bcast_record.proofs.Entries.{entry_of_note, found_there}
use Rattle.bcast_record.proofs.finished.Finished.entry_of.Goals as goal

pub returns-clause-entry : goal.returns-clause-entry
returns-clause-entry g c =
    let place = c.receipt.inside.place in
    let entry = c.receipt.inside.entry in
    let entries = c.self.inside.entries.items in
    let noted : slice_get (notes_of c.self.inside.opening entries) (suc place) ≡ Some (note.Answered entry) =
    ap (λ notes. slice_get notes (suc place)) (sym c.self.invariant.0) ∙ found_there _ _ c.compare.ensures (suc place) (note.Answered entry) c.receipt.invariant in
    c.index.ensures ∙ get_or_from_slice_get entries place entry c.index.result.now (entry_of_note c.self.inside.opening entries place entry noted)
    ∙ ap (λ placed. placed.entry) c.receipt.view_is
