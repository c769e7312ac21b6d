use Rattle.std.proofs.Common.{arith}
use Rattle.std.proofs.lemmas.Grind.{common_steps}
use Rattle.async_broadcast.proofs.Batches.{into_gave}
use Rattle.async_broadcast.proofs.batch.receive_kept.Goals as goal

pub returns-then-count-gt0-clause-some : goal.returns-then-count-gt0-clause-some
returns-then-count-gt0-clause-some g c = (
  c.receive_many-count.ensures.at_most,
  grind (arith, common_steps),
  into_gave g.P.Ask.gave g.P.Ask.learns c.args.port.now c.receive_many-count.ensures.received,
)
