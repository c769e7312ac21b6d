use Rattle.std.proofs.Common.{map, sym, ap, subst, ◌∙◌}
use Rattle.std.specs.List.{AllByRecursion}
use Rattle.bcast_model.specs.Words.{HasPositiveCapacity}
use Rattle.bcast_record.specs.Replay.{calls_of}
use Rattle.bcast_record.proofs.Entries.{calls_of-entries}
use Rattle.bcast_record.proofs.finished.Finished.calls.Goals as goal

pub returns : goal.returns
returns g c =
    let copied = c.in_ok-calls.ensures ∙ ap (map (λ entry. entry.call)) c.as_slice.ensures.value
    ∙ calls_of-entries c.self.inside.opening c.self.inside.entries.items in
    record {
      same = copied ∙ ap calls_of c.self.view_is;
      positive = subst (AllByRecursion HasPositiveCapacity) (sym copied) c.self.invariant.1.calls;
    }
