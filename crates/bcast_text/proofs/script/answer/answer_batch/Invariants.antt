-- The messages before this one are written.
use Rattle.std.proofs.Common.{take}
use Rattle.std.specs.Io.KnownBytes.{Appends}
use Rattle.bcast_text.specs.ScriptAnswer.{batch_text}
use Rattle.bcast_text.proofs.script.answer.answer_batch.Given as goal

abbrev pub invariant-loop-msg : goal.invariant-loop-msg
invariant-loop-msg g l =
    Appends (g.W.Write.contents l.fn.output) (g.W.Write.contents l.output) (batch_text (take l.msg-index l.msgs))
