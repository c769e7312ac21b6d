-- A word that spells a number is parsed as that number.
use Rattle.std.proofs.Common.{rules, arith, ◌≡◌, ◌<◌, get_or, length}
use Rattle.std.proofs.lemmas.Bool.Decides.{nat_tests}
use Rattle.std.proofs.lemmas.Fmt.{parse-decimal}
use Rattle.bcast_text.proofs.Numbers.{spelt_if_parsed}
use Rattle.bcast_text.proofs.number.number.Goals as goal

pub returns-clause-none : goal.returns-clause-none
returns-clause-none c none n small e =
    let read = parse-decimal 64 n c.args.word.now c.parse.result small small e c.parse.ensures.value.0 in
    search (rules, read, c.ok.ensures.value, none)

pub returns-clause-spelt : goal.returns-clause-spelt
returns-clause-spelt c =
    let same = c.as_bytes-bytes.ensures.value in
    let some : 0 < length c.as_bytes-bytes.result.now = grind (arith, nat_tests, c.if-is_empty.ensures) in
    let lone : get_or c.as_bytes-bytes.result.now 0 0 ≡ 48 → length c.as_bytes-bytes.result.now ≡ 1 = λ zero. grind (arith, nat_tests, zero, some) in
    rw c.ok.ensures.value (spelt_if_parsed c.args.word.now c.parse.result c.parse.ensures.value.0 (rw same at c.if-bytes-eq43.false) (rw same at lone))
