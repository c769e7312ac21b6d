-- One more number was sent, or none since the channel was closed.
use Rattle.std.proofs.Common.{refl, sym, ◌∙◌}
use Rattle.bcast_threads.proofs.Sent.{all_after, before_closing, one_more, not_refused}
use Rattle.bcast_history.specs.History.{accepted_by}
use Rattle.bcast_threads.specs.Lists.{HasAll}
use Rattle.bcast_threads.proofs.work.send_all.Goals as goal
use Rattle.bcast_threads.proofs.work.send_all.Goals.{else-loop-msg-test, then-loop-msg-test+then-is_err}

pub loop-msg-preserved : goal.loop-msg-preserved
loop-msg-preserved g c =
    let accepted = not_refused c.broadcast_blocking.result (sym c.is_err.ensures.value ∙ c.if-is_err.false) in
    record {
      end = refl;
      sent = one_more c.args.first {after = c.broadcast_blocking.new.self.tracker.steps} c.sends_stand_last.ensures
          (rw c.loop-msg.invariant.end at c.loop-msg.invariant.sent) c.broadcast_blocking.ensures.follows accepted;
    }

pub invariant_of-result : goal.invariant_of-result
invariant_of-result g c =
    let o = g.J.Channel.opening in
    let steps = c.loop-msg-test.sender.tracker.steps in
    let sent : HasAll c.args.first c.loop-msg.end (accepted_by o steps) = elim c.loop-msg-test.branch [
      | else-loop-msg-test w ↦ rw w.sender-is c.loop-msg.invariant.sent
      | then-loop-msg-test+then-is_err w ↦
          rw w.sender-is (all_after c.args.first c.loop-msg.end w.broadcast_blocking.ensures.follows c.loop-msg.invariant.sent)
    ] in
    rw c.seen-seen.ensures
    (record { were = record { sent = sent; before = before_closing _ o c.args.first c.loop-msg.end steps c.invariant_holds.ensures.run sent } })
