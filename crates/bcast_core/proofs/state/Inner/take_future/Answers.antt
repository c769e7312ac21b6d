use Rattle.bcast_core.proofs.Common.{refl, pair_ended, does_sets, ends, shown_after, valid_shown}
use Rattle.bcast_model.specs.declared.listener.Kind.TheVariants as kind
use Rattle.bcast_core.proofs.state.Inner.take_future.Goals as goal

pub returns : goal.returns
returns g c = ends c.self.view_is c.self.invariant tt (does_sets (pair_ended c.self.inside.parts.control (c.args.key, kind.Future)) refl refl (valid_shown c.self.invariant).low c.pair_ended-notice.ensures) c.tell_a_sender.ensures

pub invariant_of-self : goal.invariant_of-self
invariant_of-self g c = shown_after (returns g c)
