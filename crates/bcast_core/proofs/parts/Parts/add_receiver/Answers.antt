-- A receiver stays if there is room for its listeners, and else is removed at once.
use Rattle.bcast_core.proofs.Common.{rules, ◌≡◌, refl, sym, ◌∙◌, subst, arith, common_steps, Stored, ReceiversHaveRoom, control_of, seen_of, inserted}
use Rattle.bcast_core.proofs.Rooms.{room_inserted, room_raised, taken_back}
use Rattle.bcast_core.proofs.parts.Parts.add_receiver.Goals as goal
use Rattle.bcast_core.proofs.parts.Parts.add_receiver.Goals.{After-remove}

pub invariant_of-self-2 : goal.invariant_of-self-2
invariant_of-self-2 g c = record {
  receivers = subst (λ (s : Stored g.row.T.Denot). ReceiversHaveRoom s.cursors c.reserve_for.new.self.room) (sym c.in-Ok.ensures.ok)
      (room_inserted c.self.inside.store.cursors c.in-Ok.key c.args.cursor c.reserve_for.new.self.room c.in-Ok-reserve_for.ensures.ok
      (room_raised c.self.inside.store.cursors c.self.inside.receives.room c.reserve_for.new.self.room c.reserve_for.ensures.room c.self.invariant.receivers));
  sends = c.self.invariant.sends;
}

-- the store is as it was
store_is : (g : _) (c : After-remove g) → c.remove.new.self ≡ c.self.inside.store
store_is g c = grind (arith, common_steps, inserted, taken_back)

pub invariant_of-self-in_default-reserve_for : goal.invariant_of-self-in_default-reserve_for
invariant_of-self-in_default-reserve_for g c = record {
  receivers = subst (λ (s : Stored g.row.T.Denot). ReceiversHaveRoom s.cursors c.reserve_for.new.self.room) (sym (store_is g (goal.at.invariant_of-self-in_default-reserve_for g c).After-remove))
      (room_raised c.self.inside.store.cursors c.self.inside.receives.room c.reserve_for.new.self.room c.reserve_for.ensures.room c.self.invariant.receivers);
  sends = c.self.invariant.sends;
}

pub returns-in_default-reserve_for : goal.returns-in_default-reserve_for
returns-in_default-reserve_for g c = (
  refl,
  (λ i. seen_of (store_is g (goal.at.returns-in_default-reserve_for g c).After-remove i)
      (control_of (store_is g (goal.at.returns-in_default-reserve_for g c).After-remove i) c.self.inside.places c.self.inside.sends (record c.reserve_for.new.self { listeners = c.reserve_for.ensures.listeners i }) c.self.inside.senders c.self.inside.inactive c.self.inside.closed c.self.inside.overflow c.self.inside.await_active c.self.inside.capacity))
      ∙ c.self.view_is,
)

pub returns : goal.returns
returns g c = (grind (arith, common_steps), search rules, grind (arith, common_steps))
