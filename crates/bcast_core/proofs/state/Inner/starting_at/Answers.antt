-- A new channel has its first receiver.
use Rattle.bcast_core.proofs.Common.{◌≡◌, true, false, [], sym, ap, ◌∙◌, subst, arith, opening, Stored, end_of, ReceiversHaveRoom, control_of, seen_of, empty, insert}
use Rattle.bcast_model.proofs.Opening.{opening_valid, view_of-opening}
use Rattle.bcast_core.proofs.Rooms.{room_empty, room_inserted, below_none}
use Rattle.bcast_core.proofs.state.Inner.starting_at.Goals as goal
use Rattle.bcast_core.proofs.state.Inner.starting_at.Goals.{In_ok-reserve_for}

store_is : (g : _) (c : In_ok-reserve_for g)
    → c.add.new.self ≡ record { front = c.args.first; queue = []; cursors = insert empty c.in_ok-key.key c.args.first; room = c.args.cap }
store_is g c = c.in_ok-key.ensures.ok ∙ ap (λ (s : Stored g.row.T.Denot). record s { cursors = insert s.cursors c.in_ok-key.key c.args.first }) c.in_ok-store.ensures

pub invariant_of-parts : goal.invariant_of-parts
invariant_of-parts g c = record {
  receivers = subst (λ (s : Stored g.row.T.Denot). ReceiversHaveRoom s.cursors c.reserve_for.new.self.room) (sym (store_is g (goal.at.invariant_of-parts g c).In_ok-reserve_for))
      (room_inserted empty c.in_ok-key.key c.args.first c.reserve_for.new.self.room c.in_ok-reserve_for.ensures.ok (room_empty c.reserve_for.new.self.room));
  sends = below_none c.new-2.result c.new-3.result.room c.new-2.ensures;
}

pub returns-clause-opened : goal.returns-clause-opened
returns-clause-opened g c =
    let stored = store_is g (goal.at.returns-clause-opened g c).In_ok-reserve_for in
    let receives_is = c.reserve_for.ensures.listeners ∙ c.new-receives.ensures in
    let end : end_of c.add.new.self ≡ c.args.first = ap end_of stored ∙ omega arith in
    (λ i. record (seen_of (stored i) (control_of (stored i) (c.new-2.ensures i) (record c.new-3.result { listeners = c.new-3.ensures i }) (record c.reserve_for.new.self { listeners = receives_is i }) 1 0 false false true c.args.cap)) { end = end i })
    ∙ sym (view_of-opening c.args.cap c.args.first c.in_ok-key.key c.requires.capacity c.ranges.cap.fits c.requires.number)

pub returns-clause-valid : goal.returns-clause-valid
returns-clause-valid g c = opening_valid c.args.cap c.args.first c.in_ok-key.key c.requires.capacity c.ranges.cap.fits c.requires.number

pub invariant_of-result : goal.invariant_of-result
invariant_of-result g c = (opening c.args.cap c.args.first c.in_ok-key.key, returns-clause-valid g c, returns-clause-opened g c)
