-- The slot has the new number.
use Rattle.std.proofs.Common.{◌≡◌, Some, is_some, sym, ap, ◌∙◌}
use Rattle.std.specs.Option.{option_copied_mut}
use Rattle.std.specs.FinMap as map
use Rattle.slab.specs.Slab.{get, with_value, ContainsKey}
use Rattle.slab.proofs.SlabLemmas.{Updates-with_value}
use Rattle.bcast_store.specs.Cursors.{cursors_of}
use Rattle.bcast_store.proofs.CursorEntries.{cursors_of-updated}
use Rattle.bcast_store.proofs.cursors.Cursors.replace.Goals as goal

pub returns-clause-some : goal.returns-clause-some
returns-clause-some g c =
    let old = c.self.inside.numbers in
    let new = c.replace.new.dest in
    let read : Some c.in-Some.cursor.now ≡ get old c.args.key = ap option_copied_mut (sym c.in-Some.is) ∙ c.get_mut.ensures.value in
    let there : ContainsKey old c.args.key = ap is_some (sym read) in
    cursors_of-updated old (with_value old c.args.key new) c.args.key new (Updates-with_value old c.args.key new there)
    ∙ ap (map.insert (cursors_of old) c.args.key) c.replace.ensures.after
    ∙ ap (λ m. map.insert m c.args.key c.args.number) c.self.view_is
