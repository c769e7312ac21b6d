-- What a run of `bcast` has written, by what its arguments ask for and by how it ended.
use Rattle.std.specs.Prelude.{ℕ, ◌*◌, List, Option, None, true, false}
use Rattle.std.specs.Global.{Global}
use Rattle.std.specs.Io.KnownBytes.{Appends}
use Rattle.bcast_text.specs.declared.script.command.Command.{Command}
use Rattle.bcast_text.specs.declared.script.command.Command.TheVariants.{Script, Topics, Threads}
use Rattle.bcast_text.specs.declared.ending.Ending.{Ending}
use Rattle.bcast_text.specs.Run.{IsRun}
use Rattle.bcast_text.specs.Outcome.{IsEnding, printed_text}
use Rattle.bcast_play.specs.ScriptRun.{Named, IsScriptLine, IsNoScriptLine}
use Rattle.bcast_play.specs.TopicsRun.{Followed, IsTopicsLine, IsNoTopicsLine, IsWithoutTopics}

-- the most bytes of a line
abbrev longest : ℕ
longest = 200

-- input: what was to be read; old and new: what the output held before and after
abbrev pub HasWritten : Command → Option (List ℕ) → Option (List ℕ) → Option (List ℕ) → Ending
    → Type 0
HasWritten Script input old new ending =
    (last : Option Named)
    × IsRun IsNoScriptLine false longest IsScriptLine input old new None last ending
HasWritten Topics input old new ending =
    (first last : Followed) × IsWithoutTopics first
    × IsRun (IsNoTopicsLine Global) true longest (IsTopicsLine Global) input old new first last
    ending
HasWritten (Threads s r m) input old new ending =
    IsEnding ending × Appends old new (printed_text ending r (s * m))
