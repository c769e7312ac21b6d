-- The marks show which numbers the list holds.
use Rattle.std.proofs.Common.{◌∙◌, arith}
use Rattle.std.proofs.lemmas.Grind.{common_steps}
use Rattle.bcast_text.proofs.threads.holds_each_once.Goals as goal

pub returns : goal.returns
returns c =
    let none = c.in_ok-held.ensures.items_if_clones_equal (λ mark same. same) in
    let marked = rw (c.as_mut_slice.ensures.value ∙ none) at c.mark_all.ensures.marked in
    let long = rw (c.as_mut_slice.ensures.value ∙ none) at c.mark_all.ensures.length in
    let all = rw c.as_slice.ensures.value at c.are_marked.ensures in (
      λ each. (c.if-list-count.false, λ n below. grind (arith, common_steps, marked n, long, all.0 each n)),
      λ holds. all.1 (λ n d below. grind (arith, common_steps, marked n, long, holds.1 n)),
    )
