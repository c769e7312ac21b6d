use Rattle.std.proofs.Common.{◌≡◌, suc, ◌+◌, ◌-◌, ◌<◌, ◌++◌, ◌∷◌, [], length, take, get_or, append-nil, sym, ap, ◌∙◌, subst, arith}
use Rattle.std.proofs.Math.Seq.{take-suc}
use Rattle.std.proofs.lemmas.List.{append_assoc}
use Rattle.uses.specs.Reading.{HasRoom}
use Rattle.own_channel.proofs.promises.send_all.Goals as goal

pub loop-number-init : goal.loop-number-init
loop-number-init c =
    let e : length c.args.numbers.now ≡ length c.args.numbers.now - 0 = omega arith in
    (subst (λ k. HasRoom c.args.channel.now k) e c.requires.room, c.requires.reader, sym (append-nil _))

pub unreachable-requires : goal.unreachable-requires
unreachable-requires c =
    let i = c.loop-number.number-index in
    let n = length c.args.numbers.now in
    let more = c.loop-number-test.true in
    let e : n - i ≡ (n - (i + 1)) + 1 = omega (arith, more) in
    let has = subst (λ k. HasRoom c.loop-number.channel k) e c.loop-number.invariant.0 in
    let sent = c.sends_with_room.ensures _ _ _ (n - (i + 1)) _ c.try_broadcast.ensures has in
    let ok = rw c.in-Err.is at sent.ok in
    cc

pub loop-number-preserved : goal.loop-number-preserved
loop-number-preserved c =
    let i = c.loop-number.number-index in
    let n = length c.args.numbers.now in
    let more = c.loop-number-test.true in
    let e : n - i ≡ (n - (i + 1)) + 1 = omega (arith, more) in
    let has = subst (λ k. HasRoom c.loop-number.channel k) e c.loop-number.invariant.0 in
    let sent = c.sends_with_room.ensures _ _ _ (n - (i + 1)) _ c.try_broadcast.ensures has in
    let next = take-suc c.args.numbers.now i 0 more in
    let one : i + 1 ≡ suc i = omega arith in
    let number = get_or c.args.numbers.now i 0 in
    let all =
    sent.added c.args.reader c.loop-number.invariant.1
    ∙ ap (λ xs. xs ++ number ∷ []) c.loop-number.invariant.2
    ∙ append_assoc _ (take i c.args.numbers.now) (number ∷ []) in
    (sent.room, sent.readers c.args.reader c.loop-number.invariant.1, rw (one, next) all)

pub returns-clause-log : goal.returns-clause-log
returns-clause-log c = c.loop-number.invariant.0.log
