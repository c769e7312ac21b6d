use Rattle.std.proofs.Common.{◌≡◌, ◌++◌, ◌∷◌, ◌+◌, ◌<◌, [], length, sym, ap, ◌∙◌, arith}
use Rattle.std.proofs.lemmas.List.{append_assoc}
use Rattle.uses.specs.Log.{unread}
use Rattle.own_channel.proofs.promises.receive_all.Goals as goal

pub unreachable-requires : goal.unreachable-requires
unreachable-requires c =
    let answers = rw c.in-Err.is at c.in_ok-number.ensures.answers in
    let taken = c.reads_in_order.ensures (λ msg given e. e) _ _ _ _ answers c.loop.invariant.0 in
    let none = ap length taken.none in
    let left = c.loop.invariant.2 in
    let more = c.loop-test.true in
    omega (arith, none, left, more)

pub loop-preserved : goal.loop-preserved
loop-preserved c =
    let answers = rw c.in-Ok.is at c.in_ok-number.ensures.answers in
    let taken = c.reads_in_order.ensures (λ msg given e. e) _ _ _ _ answers c.loop.invariant.0 in
    let size = ap length taken.first in
    let left = c.loop.invariant.2 in
    let items =
    ap (λ xs. xs ++ unread c.try_recv.new.self c.args.reader) c.in_ok-push-in-Ok.ensures.items
    ∙ append_assoc c.loop.got.items (c.in-Ok.number ∷ []) _
    ∙ ap (λ xs. c.loop.got.items ++ xs) (sym taken.first) ∙ c.loop.invariant.1 in
    (taken.log, items, omega (arith, size, left))
