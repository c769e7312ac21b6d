use Rattle.bcast_core.proofs.Common.{ap, sym, ◌∙◌, is_some, arith, common_steps, get, View, pair_waits, control_of, seen_of}
use Rattle.bcast_core.proofs.ReceivePolls.{poll_nobody, poll_found, poll_listens}
use Rattle.bcast_core.proofs.Receives.{empty_exactly, empty_there, settle_empty}
use Rattle.bcast_core.proofs.parts.Parts.poll.Goals as goal
use Rattle.bcast_core.proofs.parts.Parts.poll.Goals.{then-not-nobody_waits, else-not-nobody_waits}

pub wait_again-requires : goal.wait_again-requires
wait_again-requires g c =
    let empty = sym (empty_exactly c.args.self.now c.args.key c.args.at c.in-Ok.answer c.in-Ok.ensures.found) ∙ sym c.is_empty.ensures ∙ c.if-is_empty.true in
    let there = ap (λ (v : View g.row.T.Denot). is_some (get v.control.cursors c.args.key)) (c.self.view_is ∙ settle_empty c.args.self.now c.receive.new.self c.args.key c.args.at c.requires.valid empty c.in-Ok.ensures.ok)
    ∙ empty_there c.args.self.now c.args.key c.args.at c.requires.valid c.requires.at empty in
    let room = c.self.invariant.receivers c.args.key there in
    grind (arith, common_steps, room)

pub returns-in_default-clause-same : goal.returns-in_default-clause-same
returns-in_default-clause-same g c =
    let empty = sym (empty_exactly c.args.self.now c.args.key c.args.at c.in-Ok.answer c.in-Ok.ensures.found) ∙ sym c.is_empty.ensures ∙ c.if-is_empty.true in
    let p = c.self.inside in
    ap (λ receives. seen_of p.store (control_of p.store p.places p.sends receives p.senders p.inactive p.closed p.overflow p.await_active p.capacity)) c.in_default.ensures.same
    ∙ c.self.view_is ∙ settle_empty c.args.self.now c.receive.new.self c.args.key c.args.at c.requires.valid empty c.in-Ok.ensures.ok

pub returns-then-is_empty-clause-ok : goal.returns-then-is_empty-clause-ok
returns-then-is_empty-clause-ok g c =
    let empty = sym (empty_exactly c.args.self.now c.args.key c.args.at c.in-Ok.answer c.in-Ok.ensures.found) ∙ sym c.is_empty.ensures ∙ c.if-is_empty.true in
    let p = c.self.inside in
    poll_listens c.args.self.now c.receive.new.self _ (c.args.key, c.args.kind) c.args.at c.requires.valid empty c.in-Ok.ensures.ok
    (ap (λ receives. seen_of p.store (control_of p.store p.places p.sends receives p.senders p.inactive p.closed p.overflow p.await_active p.capacity)) c.in-Ok-wait_again.ensures.waits
    ∙ ap (λ (v : View g.row.T.Denot). record v { control = pair_waits v.control (c.args.key, c.args.kind) }) c.self.view_is)

pub returns-clause-ok : goal.returns-clause-ok
returns-clause-ok g c =
    let found = sym (empty_exactly c.args.self.now c.args.key c.args.at c.in-Ok.answer c.in-Ok.ensures.found) ∙ sym c.is_empty.ensures ∙ c.if-is_empty.false in
    elim c.if-not-nobody_waits.branch [
      | then-not-nobody_waits w ↦ w.self-is ∙ poll_found c.args.self.now c.receive.new.self w.tell_of_receive.new.self (c.args.key, c.args.kind) c.args.at found c.in-Ok.ensures.ok w.tell_of_receive.ensures
      | else-not-nobody_waits w ↦ w.self-is ∙ poll_nobody c.args.self.now c.receive.new.self (c.args.key, c.args.kind) c.args.at (c.nobody_waits.ensures w.if-not-nobody_waits.false) found c.in-Ok.ensures.ok
    ]
