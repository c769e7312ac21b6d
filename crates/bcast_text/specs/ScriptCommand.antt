-- The arguments of each command, and the ranges of its numbers.
use Rattle.std.specs.Prelude.{ℕ, List, [], ◌∷◌, ◌<◌, ◌≤◌, ⊤, codes, decimal}
use Rattle.bcast_text.specs.declared.script.command.Command.{Command}
use Rattle.bcast_text.specs.declared.script.command.Command.TheVariants.{Script, Topics, Threads}

-- the words after the program's name
abbrev pub words_of : Command → List (List ℕ)
words_of Script = codes "script" ∷ []
words_of Topics = codes "topics" ∷ []
words_of (Threads s r m) = codes "threads" ∷ decimal s ∷ decimal r ∷ decimal m ∷ []

-- a number from 1 to `most`
abbrev pub IsUpTo : ℕ → ℕ → Type 0
IsUpTo most n = (0 < n) × (n ≤ most)

-- at most 64 threads send, at most 64 receive, and each sender has at most 100000 messages
abbrev pub IsInRange : Command → Type 0
IsInRange Script = ⊤
IsInRange Topics = ⊤
IsInRange (Threads s r m) = IsUpTo 64 s × IsUpTo 64 r × IsUpTo 100000 m
