-- One list more, which is the log's.
use Rattle.std.proofs.Common.{rules, ◌≡◌, Vec, ℕ, Global, sym, ◌∙◌}
use Rattle.std.proofs.lemmas.List.Elements.{All-push}
use Rattle.bcast_threads.proofs.lists.other_lists.Goals as goal

pub loop-thread-preserved : goal.loop-thread-preserved
loop-thread-preserved g c = record {
  count = search rules;
  same = rw c.in_ok-push.ensures.items
      (All-push (λ (list : Vec ℕ Global). list.items ≡ c.args.log.now.list) c.loop-thread.lists.items c.into_list.result c.loop-thread.invariant.same
      (c.into_list.ensures ∙ sym (c.agrees_with.ensures (λ msg copy same. same))));
}
