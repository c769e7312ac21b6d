-- What the lines after the first ask for.
use Rattle.bcast_model.specs.Next.{HasPositiveCapacity}
use Rattle.bcast_trace.specs.declared.line.Line.{Line}
use Rattle.bcast_trace.specs.declared.line.Line.TheVariants.{View, Call}

-- a new capacity is positive
abbrev pub IsInForm : Line → Type 0
IsInForm View = Unit {0}
IsInForm (Call text call) = HasPositiveCapacity call
