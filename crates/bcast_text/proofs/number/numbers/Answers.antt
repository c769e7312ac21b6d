use Rattle.std.proofs.Common.{rules, refl, arith, decimal}
use Rattle.bcast_text.proofs.NumberLists.{one_read, none_if}
use Rattle.bcast_text.proofs.Spaced.{at_none, at_some}
use Rattle.bcast_text.proofs.number.numbers.Goals as goal

pub returns-in_default-number-clause-none : goal.returns-in_default-number-clause-none
returns-in_default-number-clause-none c = λ _.
    none_if c.args.text.now c.loop-first.msgs.items c.loop-first.rest.now c.in-Some.first.now (c.in_default-number.ensures.none refl)
    (λ n more none same. (at_some _ (c.in-Some.first, c.in-Some.others) c.in-Some.ensures.cases (decimal n) more none same).0) c.loop-first.invariant.0

pub loop-first-preserved : goal.loop-first-preserved
loop-first-preserved c = (
  rw c.in_ok-push.ensures.items
      (one_read _ _ _ (c.in-Some.first, c.in-Some.others) _ (omega arith) c.in-Some.ensures.cases c.in-Some-number.ensures.spelt c.loop-first.invariant.0),
  search rules,
)

pub returns-in_default-number-2-clause-none : goal.returns-in_default-number-2-clause-none
returns-in_default-number-2-clause-none c = λ _.
    none_if c.args.text.now c.loop-first.msgs.items c.loop-first.rest.now c.loop-first.rest.now (c.in_default-number-2.ensures.none refl)
    (λ n more none same. (at_none _ c.in_default.ensures.cases (decimal n) more none same).1) c.loop-first.invariant.0
