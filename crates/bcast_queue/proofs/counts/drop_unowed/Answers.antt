-- Each turn of the loop drops the first message, so there are fewer then.
use Rattle.std.proofs.Common.{◌≡◌, ◌+◌, ◌<◌, length, drop, get_or, set, sum, sym, ap, ◌∙◌, arith, length-drop}
use Rattle.std.specs.List.{prefix_len}
use Rattle.std.proofs.lemmas.List.{length-map, drop-map, drop-drop, set-get_or}
use Rattle.std.proofs.lemmas.List.Sums.{sum_by-take-drop}
use Rattle.bcast_queue.specs.Entries.{counts, messages, next_of, message_of}
use Rattle.bcast_queue.proofs.Owed.{nobody, one_nobody}
use Rattle.bcast_queue.proofs.counts.drop_unowed.Goals as goal

pub loop-next-preserved : goal.loop-next-preserved
loop-next-preserved g c =
    let q = c.loop-next.ring in
    let p = c.pop_front.new.self in
    let r = c.change_at-next.new.ring in
    let looked = c.change_at-next.ensures in
    let inv = c.loop-next.invariant in
    let rest = drop 1 (counts q) in
    let same : counts r ≡ counts p =
    looked.counts ∙ ap (set (counts p) 0) (omega (arith, looked.value)) ∙ set-get_or (counts p) 0 0 in
    let popped : counts r ≡ rest = same ∙ ap counts c.pop_front.ensures.items ∙ sym (drop-map next_of 1 q.items) in
    let kept : messages r ≡ drop 1 (messages q) = looked.messages ∙ ap messages c.pop_front.ensures.items ∙ sym (drop-map message_of 1 q.items) in
    let one : prefix_len nobody (counts q) ≡ 1 + prefix_len nobody rest =
    one_nobody (counts q) (omega (arith, inv.some, length-map q.items next_of)) (sym inv.next ∙ c.loop-next-test.true) in
    let long : length r.items ≡ length p.items = omega (arith, length-map r.items next_of, length-map p.items next_of, ap length same) in
    let fewer : length r.items + 1 ≡ length q.items =
    omega (arith, length-map r.items next_of, ap length popped, length-drop 1 (counts q), length-map q.items next_of, inv.some) in
    let left : 0 < length p.items = grind (arith, c.if-is_empty.ensures) in
    record {
      some = omega (arith, left, long);
      next = omega (arith, looked.value, ap (λ ns. get_or ns 0 0) same);
      messages_left =
          ap (λ ns. drop (prefix_len nobody ns) (messages r)) popped
          ∙ ap (drop (prefix_len nobody rest)) kept
          ∙ drop-drop (prefix_len nobody rest) 1 (messages q)
          ∙ ap (λ n. drop n (messages q)) (sym one)
          ∙ inv.messages_left;
      counts_left =
          ap (λ ns. drop (prefix_len nobody ns) ns) popped
          ∙ drop-drop (prefix_len nobody rest) 1 (counts q)
          ∙ ap (λ n. drop n (counts q)) (sym one)
          ∙ inv.counts_left;
      capacity = looked.capacity ∙ ap (λ b. b.capacity) c.pop_front.ensures.items ∙ inv.capacity;
      front = omega (arith, ap (prefix_len nobody) popped, one, inv.front);
      numbered = omega (arith, fewer, inv.numbered);
      fits = omega (arith, ap sum popped, sum_by-take-drop (λ x. x) (counts q) 1, inv.fits);
      steps = omega (arith, fewer, inv.steps, looked.steps);
    }
