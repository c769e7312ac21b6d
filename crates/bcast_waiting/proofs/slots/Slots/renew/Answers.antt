-- Another notice doesn't change the ids.
use Rattle.bcast_waiting.proofs.Common.{◌<◌, Some, length, refl, sym, ap, ◌∙◌, arith, slot_id}
use Rattle.std.proofs.lemmas.List.{length-map}
use Rattle.std.specs.Vec.{with_item}
use Rattle.bcast_waiting.proofs.Renewed.{IsRenewed, renewed, seen_renewed, kept_renewed}
use Rattle.bcast_waiting.proofs.slots.Slots.renew.Goals as goal
use Rattle.bcast_waiting.proofs.slots.Slots.renew.Goals.{After-renew}

-- one listener has the other notice
one_renewed : (g : _) (c : After-renew g) → IsRenewed c.self.inside (record c.self.inside { listeners = with_item c.self.inside.listeners c.args.position (Some c.renew.new.self) })
one_renewed g c =
    let slots = c.self.inside.listeners.items in
    let new = Some c.renew.new.self in
    let within : c.args.position < length slots = omega (arith, c.requires.within, ap (λ s. length s.ids) c.self.view_is, length-map slots slot_id) in
    renewed c.self.inside _ c.args.position c.index_mut.result.now new within c.index_mut.ensures.value
    (ap Some c.renew.ensures.same ∙ ap slot_id (sym c.in-Some.is)) (with_item c.self.inside.listeners c.args.position new) refl refl refl

pub invariant_of-self : goal.invariant_of-self
invariant_of-self g c = kept_renewed (one_renewed g (goal.at.invariant_of-self g c).After-renew) g.I.Indexed.number c.self.invariant

pub returns-clause-same : goal.returns-clause-same
returns-clause-same g c = seen_renewed (one_renewed g (goal.at.returns-clause-same g c).After-renew) ∙ c.self.view_is
