-- How a run of a program ends, as its user sees it.
use Rattle.std.specs.Prelude.{ℕ, List, [], ◌++◌, codes, decimal}
use Rattle.bcast_text.specs.declared.ending.Program.TheVariants.{Bcast, Replay}
use Rattle.bcast_text.specs.declared.ending.Ending.{Ending}
use Rattle.bcast_text.specs.declared.ending.Ending.TheVariants.{Done, Differ, WrongArguments, NotACall, NoMemory, NoThread, InputFailed, OutputFailed}

-- the exit status
abbrev pub status_of : Ending → ℕ
status_of Done = 0
status_of Differ = 1
status_of (WrongArguments program) = 2
status_of (NotACall line) = 2
status_of NoMemory = 3
status_of NoThread = 3
status_of InputFailed = 4
status_of OutputFailed = 4

-- the text on standard error, its LF aside; empty if the output is all that is printed
abbrev pub text_of : Ending → List ℕ
text_of Done = []
text_of Differ = []
text_of (WrongArguments Bcast) = codes "usage: bcast script | bcast topics | bcast threads S R M"
text_of (WrongArguments Replay) = codes "usage: replay trace | replay list"
text_of (NotACall line) = codes "line " ++ decimal line ++ codes ": not a call"
text_of NoMemory = codes "out of memory"
text_of NoThread = codes "no thread"
text_of InputFailed = codes "input failed"
text_of OutputFailed = codes "output failed"

-- the line on standard error; none if the output is all that is printed
abbrev pub line_of : Ending → List ℕ
line_of Done = []
line_of Differ = []
line_of ending = text_of ending ++ codes "\n"
