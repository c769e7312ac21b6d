-- A receiver is added.
use Rattle.std.proofs.Common.{ap, ◌∙◌, arith}
use Rattle.std.proofs.lemmas.Grind.{common_steps}
use Rattle.std.specs.FinMap.{len}
use Rattle.bcast_store.proofs.Owing.{len_joined}
use Rattle.bcast_store.proofs.Messages.{last_below, same_sound}
use Rattle.bcast_store.proofs.Leaving.{sound_joined}
use Rattle.bcast_store.proofs.Store.add.Goals as goal

pub share-requires-clause-fits : goal.share-requires-clause-fits
share-requires-clause-fits g c =
    let more = ap len c.in_ok-key.ensures.ok ∙ len_joined c.self.inside.cursors c.in_ok-key.key c.args.cursor c.in_ok-key.ensures.fresh in
    last_below c.self.inside.queue c.self.inside.cursors 18446744073709551615 c.self.invariant c.invariant_holds.ensures.lengths (omega (arith, more, c.in_ok-key.ensures.fits))

pub invariant_of-self-2 : goal.invariant_of-self-2
invariant_of-self-2 g c = grind (arith, common_steps, same_sound, sound_joined)
