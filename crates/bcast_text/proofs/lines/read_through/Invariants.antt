-- The text is what was consumed, and has no LF so far.
use Rattle.std.proofs.Common.{◌≢◌, All}
use Rattle.std.specs.Io.KnownBytes.{Consumes}
use Rattle.bcast_text.proofs.lines.read_through.Given as goal

abbrev pub invariant-loop : goal.invariant-loop
invariant-loop g l = All (λ byte. byte ≢ 10) l.text.items × Consumes (g.B.Read.remaining l.initial.input) (g.B.Read.remaining l.input) l.text.items
