-- Calling a notice doesn't change the ids.
use Rattle.bcast_waiting.proofs.Common.{◌<◌, Some, length, refl, sym, ap, ◌∙◌, arith, slot_id}
use Rattle.std.proofs.lemmas.List.{length-map}
use Rattle.bcast_waiting.proofs.Renewed.{IsRenewed, renewed, seen_renewed, kept_renewed}
use Rattle.bcast_waiting.proofs.slots.Slots.tell_at.Goals as goal
use Rattle.bcast_waiting.proofs.slots.Slots.tell_at.Goals.{Joined-index_mut, in-Some, in-None}

-- one listener has a notice that was called
one_renewed : (g : _) (c : Joined-index_mut g) → IsRenewed c.self.inside c.match-index_mut.self-inside
one_renewed g c =
    let slots = c.self.inside.listeners.items in
    let old = c.index_mut.result.now in
    let within : c.args.position < length slots = omega (arith, c.requires, ap (λ s. length s.ids) c.self.view_is, length-map slots slot_id) in
    elim c.match-index_mut.branch [
      | in-Some w ↦
          let new = Some (record w.in-Some.listener { notice = w.tell.new.self }) in
          renewed c.self.inside _ c.args.position old new within c.index_mut.ensures.value
          (ap slot_id (sym w.in-Some.is)) _ w.self-inside-is refl refl
      | in-None w ↦
          renewed c.self.inside _ c.args.position old old within c.index_mut.ensures.value refl _ w.self-inside-is refl refl
    ]

pub invariant_of-self : goal.invariant_of-self
invariant_of-self g c = kept_renewed (one_renewed g c) g.I.Indexed.number c.self.invariant

pub returns-clause-same : goal.returns-clause-same
returns-clause-same g c = seen_renewed (one_renewed g c) ∙ c.self.view_is
