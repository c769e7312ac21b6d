-- Each part of the snapshot is what its call ensures.
use Rattle.bcast_core.proofs.Common.{ap, subst, ◌∙◌, entries}
use Rattle.std.specs.List.{AllZip}
use Rattle.bcast_core.proofs.state.Inner.snapshot.Goals as goal

pub returns : goal.returns
returns g c =
    let is = ap (λ inside. inside.parts) c.self-inside.view_is ∙ c.self.view_is in
    record {
      front = c.front.ensures ∙ ap (λ v. v.front) is;
      queue = subst (λ v. AllZip g.T.Clone.is_clone v.queue c.in_ok-clones_of.field-0.items) is c.in_ok-clones_of.ensures;
      end = c.end.ensures ∙ ap (λ v. v.end) is;
      cursors = c.in_ok-cursors.ensures ∙ ap (λ v. entries v.control.cursors) is;
      senders = ap (λ v. v.control.senders) is;
      inactive = ap (λ v. v.control.inactive) is;
      closed = ap (λ v. v.control.closed) is;
      overflow = ap (λ v. v.control.overflow) is;
      await_active = ap (λ v. v.control.await_active) is;
      capacity = ap (λ v. v.control.capacity) is;
      room = c.room.ensures ∙ ap (λ v. v.control.room) is;
      places = c.in_ok-items.ensures.same ∙ ap (λ v. v.control.places) is;
      rising = c.in_ok-items.ensures.rising;
      waiting_sends = (λ i. record { ids = c.in_ok-ids.ensures i; told = c.told.ensures i }) ∙ ap (λ v. v.control.waiting_sends) is;
      waiting_receives = (λ i. record { ids = c.in_ok-ids-2.ensures i; told = c.told-2.ensures i }) ∙ ap (λ v. v.control.waiting_receives) is;
    }
