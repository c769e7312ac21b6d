-- One more message is cloned.
use Rattle.std.proofs.Common.{◌≡◌, ◌+◌, ◌≤◌, Some, sym, ap, ◌∙◌, subst, arith, slice_get}
use Rattle.std.proofs.lemmas.List.{take_all}
use Rattle.std.proofs.lemmas.List.Elements.{all_zip_more}
use Rattle.std.proofs.lemmas.Option.{get_or_from_slice_get, slice_get_within}
use Rattle.bcast_core.proofs.snapshot.clones_of.Goals as goal

pub loop-index-preserved : goal.loop-index-preserved
loop-index-preserved g c =
    let queue = c.args.store.now.queue in
    let at = c.loop-index in
    let msg = c.in-Some.msg.now in
    let read : slice_get c.args.store.now.queue c.loop-index.index ≡ Some c.in-Some.msg.now = sym {b = slice_get c.args.store.now.queue c.loop-index.index} c.in-Some.ensures in
    record {
      len = c.push_reserved.ensures.len ∙ ap (λ n. n + 1) at.invariant.len;
      room = subst (λ n. c.len-index-end.result ≤ n) (sym c.push_reserved.ensures.capacity) at.invariant.room;
      end = at.invariant.end;
      clones = rw c.push_reserved.ensures.items (all_zip_more g.T.Clone.is_clone queue at.clones.items at.index msg c.in_ok-clone.field-0 (slice_get_within queue at.index msg read) (sym (get_or_from_slice_get queue at.index msg msg read)) at.invariant.clones c.in_ok-clone.ensures.cases);
    }

pub returns : goal.returns
returns g c =
    rw (take_all c.loop-index.index c.args.store.now.queue (omega arith))
    at c.loop-index.invariant.clones
