-- A place stays if there is room for its send, and else is given back.
use Rattle.bcast_core.proofs.Common.{◌≡◌, ap, ◌∙◌, Places, control_of, seen_of}
use Rattle.std.specs.FinSet as set
use Rattle.bcast_core.proofs.Rooms.{places_kept, place_taken, place_taken_back}
use Rattle.bcast_core.proofs.parts.Parts.begin_send.Goals as goal
use Rattle.bcast_core.proofs.parts.Parts.begin_send.Goals.{After-remove}

pub invariant_of-self-in-Ok : goal.invariant_of-self-in-Ok
invariant_of-self-in-Ok g c = place_taken c.self.inside.places c.add.new.self c.in_ok-place.place c.self.inside.sends.room c.reserve_for.new.self.room c.in_ok-place.ensures.ok c.in-Ok.ensures.ok c.reserve_for.ensures.room c.self.invariant

-- the places are as they were
given_back : (g : _) (c : After-remove g) → c.remove.new.self ≡ c.self.inside.places
given_back g c = c.remove.ensures.rest ∙ ap (λ (s : Places). set.remove s c.in_ok-place.place) c.in_ok-place.ensures.ok ∙ place_taken_back c.self.inside.places c.in_ok-place.place c.in_ok-place.ensures.fresh

pub invariant_of-self-in_default : goal.invariant_of-self-in_default
invariant_of-self-in_default g c = places_kept c.self.inside.places c.remove.new.self c.self.inside.sends.room c.reserve_for.new.self.room (given_back g (goal.at.invariant_of-self-in_default g c).After-remove) c.reserve_for.ensures.room c.self.invariant

pub returns-in_default-clause-err : goal.returns-in_default-clause-err
returns-in_default-clause-err g c =
    let p = c.self.inside in
    (λ i. seen_of p.store (control_of p.store (given_back g (goal.at.returns-in_default-clause-err g c).After-remove i) (record c.reserve_for.new.self { listeners = c.reserve_for.ensures.listeners i }) p.receives p.senders p.inactive p.closed p.overflow p.await_active p.capacity))
    ∙ c.self.view_is
