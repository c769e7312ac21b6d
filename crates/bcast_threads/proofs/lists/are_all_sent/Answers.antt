-- A sender that ended where the next one began.
use Rattle.std.proofs.Common.{arith}
use Rattle.std.proofs.lemmas.Grind.{common_steps}
use Rattle.bcast_threads.specs.Lists.{HasAll}
use Rattle.bcast_threads.proofs.Sent.{all_in, joined}
use Rattle.bcast_threads.proofs.lists.are_all_sent.Goals as goal
use Rattle.bcast_threads.proofs.lists.are_all_sent.Goals.{then-sent-first, else-sent-first}

pub loop-thread-preserved : goal.loop-thread-preserved
loop-thread-preserved g c =
    let sent = c.join-sent.result in
    let list = c.args.log.now.list in
    let there : HasAll sent.first sent.end list =
    all_in sent.first sent.end {known = c.args.log.now.steps} c.learn.new.self (rw (← c.seen-both.ensures) c.learn.ensures.longer) c.learn.ensures.other c.invariant_holds.ensures sent.were in
    record {
      sent = elim c.if-sent-first.branch [
        | then-sent-first w ↦
            let meets = w.if-sent-first.true in
            rw w.first-is (joined sent.first sent.end c.loop-thread.first c.args.total list (grind (arith, common_steps, meets)) there c.loop-thread.invariant.sent)
        | else-sent-first w ↦ rw w.first-is c.loop-thread.invariant.sent
      ];
      receivers = c.loop-thread.invariant.receivers;
    }
