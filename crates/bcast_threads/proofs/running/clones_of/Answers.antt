-- One clone more, which reads on where its original does.
use Rattle.std.proofs.Common.{ℕ, ◌+◌, ap, ◌∙◌}
use Rattle.bcast_history.specs.Reader.{StartsAtTheFirst}
use Rattle.std.proofs.lemmas.List.Elements.{All-push}
use Rattle.bcast_history.specs.declared.receiver.TrackedReceiver.{TrackedReceiver}
use Rattle.bcast_threads.proofs.running.clones_of.Goals as goal

pub loop-preserved : goal.loop-preserved
loop-preserved g c =
    let so_far = c.loop.invariant in
    record {
      count = c.in_ok-push.ensures.len ∙ ap (λ n. n + 1) so_far.count;
      start = c.in_ok-clone.ensures.same.1 ∙ so_far.start;
      each = rw c.in_ok-push.ensures.items
          (All-push (λ (r : TrackedReceiver ℕ g.row.P.Denot g.row.J.Denot). StartsAtTheFirst g.J.Channel.opening r.tracker) c.loop.receivers.items
          c.in_ok-clone.field-0 so_far.each (c.in_ok-clone.ensures.starts ∙ so_far.start));
    }
