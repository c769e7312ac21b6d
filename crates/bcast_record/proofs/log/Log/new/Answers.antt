use Rattle.std.proofs.Common.{[], ◌∷◌, ◌++◌, ap, sym, ◌∙◌}
use Rattle.bcast_history.specs.declared.step.Opening.{Opening}
use Rattle.bcast_record.specs.declared.entry.Note.TheVariants as note
use Rattle.bcast_record.specs.Recording.{notes_of}
use Rattle.bcast_record.proofs.log.Log.new.Goals as goal

pub invariant_of-log : goal.invariant_of-log
invariant_of-log g c =
    let opening : Opening = record { capacity = c.args.cap; first_number = 0; first_key = c.in_ok-inner.first_key } in
    let none = c.new-2.ensures.items in (
      rw none (record { run = tt; end = c.in_ok-inner.ensures.opened; valid = c.in_ok-inner.ensures.valid }),
      c.append.ensures.appended ∙ ap (λ notes. notes ++ note.Opened opening ∷ []) c.into_writer-journal.ensures ∙ ap (notes_of opening) (sym none),
      c.open-calls.ensures.total ∙ sym c.new-2.ensures.len,
      (c.in_ok-made.ensures.left, c.in_ok-made.ensures.rest),
      rw none (record { capacity = c.requires.capacity; calls = tt }),
    )
