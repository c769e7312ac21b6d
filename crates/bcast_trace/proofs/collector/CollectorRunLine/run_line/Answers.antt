-- Nothing is written.
use Rattle.std.proofs.Common.{[]}
use Rattle.std.proofs.KnownBytes.{Appends-nil}
use Rattle.bcast_trace.proofs.collector.CollectorRunLine.run_line.Goals as goal

pub returns-clause-ok : goal.returns-clause-ok
returns-clause-ok g c = ([], tt, Appends-nil _)
