-- If the other lists are the same, the result is that of the first one.
use Rattle.std.proofs.Common.{ℕ, Vec, Global}
use Rattle.bcast_text.proofs.Marks.{one_order, no_order}
use Rattle.bcast_text.proofs.threads.is_one_order.Goals as goal

pub returns-then-not-are_equal_to : goal.returns-then-not-are_equal_to
returns-then-not-are_equal_to c =
    rw c.in-Some.ensures.cases.0 (no_order (λ (list : Vec ℕ Global). list.items) c.in-Some.first.now.items c.in-Some.others.now c.args.count c.are_equal_to.result c.are_equal_to.ensures c.if-not-are_equal_to.true)

pub returns : goal.returns
returns c =
    let same = c.are_equal_to.ensures.0 c.if-not-are_equal_to.false in
    let once = rw c.as_slice.ensures.value at c.holds_each_once.ensures in
    rw c.in-Some.ensures.cases.0 (one_order (λ (list : Vec ℕ Global). list.items) c.in-Some.first.now.items c.in-Some.others.now c.args.count same c.holds_each_once.result once)
