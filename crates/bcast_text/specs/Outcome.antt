-- What a run of `bcast threads` prints, and how it may end.
use Rattle.std.specs.Prelude.{ℕ, List, Bool, true, false, [], ◌++◌, ⊤, codes, decimal}
use Rattle.bcast_text.specs.declared.ending.Ending.{Ending}
use Rattle.bcast_text.specs.declared.ending.Ending.TheVariants.{Done, Differ, NoThread, NoMemory, OutputFailed}

-- the line of a run, by whether all receivers saw one order
abbrev pub outcome_text : Bool → ℕ → ℕ → List ℕ
outcome_text true receivers messages =
    decimal receivers ++ (codes " receivers, "
    ++ (decimal messages ++ codes " messages each, one order\n"))
outcome_text false receivers messages = codes "orders differ\n"

-- what a run with this ending prints
abbrev pub printed_text : Ending → ℕ → ℕ → List ℕ
printed_text Done receivers messages = outcome_text true receivers messages
printed_text Differ receivers messages = outcome_text false receivers messages
printed_text other receivers messages = []

-- no line is read, so no ending names one
abbrev pub IsEnding : Ending → Type 0
IsEnding Done = ⊤
IsEnding Differ = ⊤
IsEnding NoThread = ⊤
IsEnding NoMemory = ⊤
IsEnding OutputFailed = ⊤
IsEnding other = ⊥
