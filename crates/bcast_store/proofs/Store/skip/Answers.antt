-- The cursor of a lagging receiver moves to the front.
use Rattle.std.proofs.Common.{refl, ap, ◌∙◌, arith}
use Rattle.std.proofs.lemmas.Grind.{common_steps}
use Rattle.std.specs.FinMap.{get, insert}
use Rattle.bcast_store.specs.Stored.{Stored}
use Rattle.bcast_store.proofs.Owing.{found}
use Rattle.bcast_store.proofs.Messages.{same_sound, same_store}
use Rattle.bcast_store.proofs.Reading.{sound_skip}
use Rattle.bcast_store.proofs.Store.skip.Goals as goal

-- what callers rely on, before what the code itself needs
pub returns : goal.returns
returns g c =
    let lags = found (get c.self.inside.cursors c.args.key) _ (rw (← c.self.view_is) at c.requires.lags) in
    let moved = rw (c.replace.ensures.value ∙ lags.1) at c.replace.ensures.some in
    same_store c.self.inside.queue c.self.inside.queue _ (insert c.self.inside.cursors c.args.key c.self.inside.queue.front) refl (moved ∙ ap (insert c.self.inside.cursors c.args.key) c.front.ensures)
    ∙ ap (λ (s : Stored g.row.T.Denot). record s { cursors = insert s.cursors c.args.key s.front }) c.self.view_is

pub invariant_of-self : goal.invariant_of-self
invariant_of-self g c = grind (arith, common_steps, found, same_sound, sound_skip)
