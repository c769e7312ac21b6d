-- The text of each line of a script, and which numbers and names are in form.
use Rattle.std.specs.Prelude.{ℕ, ◌<◌, List, length, Option, Some, None, Bool, true, false, IfSome, ◌++◌, ◌∷◌, codes, decimal}
use Rattle.std.specs.List.{AllByRecursion}
use Rattle.bcast_text.specs.Name.{IsName}
use Rattle.bcast_text.specs.Words.{spaced, numbers_text, IsU64, IsPositive}
use Rattle.bcast_text.specs.declared.script.line.Line.{Line}
use Rattle.bcast_text.specs.declared.script.line.Line.TheVariants.{Cap, Send, SendAll, Recv, RecvMany, Clone, New, Drop, NewSender, DropSender, Close, Capacity, Overflow, Await, Deactivate, Activate, DropInactive, Len}

-- how a setting is spelled
abbrev pub flag_text : Bool → List ℕ
flag_text true = codes "on"
flag_text false = codes "off"

-- the line's first word
abbrev pub word_of : Line → List ℕ
word_of (Cap n) = codes "cap"
word_of (Send msg) = codes "send"
word_of (SendAll msgs) = codes "sendall"
word_of (Recv name) = codes "recv"
word_of (RecvMany name limit) = codes "recvmany"
word_of (Clone name new) = codes "clone"
word_of (New new) = codes "new"
word_of (Drop name) = codes "drop"
word_of NewSender = codes "newsender"
word_of DropSender = codes "dropsender"
word_of Close = codes "close"
word_of (Capacity n) = codes "capacity"
word_of (Overflow on) = codes "overflow"
word_of (Await on) = codes "await"
word_of (Deactivate name) = codes "deactivate"
word_of (Activate new) = codes "activate"
word_of DropInactive = codes "dropinactive"
word_of Len = codes "len"

-- the name of a line whose one argument it is
abbrev pub name_in : Line → Option (List ℕ)
name_in (Recv name) = Some name.now
name_in (New new) = Some new.now
name_in (Drop name) = Some name.now
name_in (Deactivate name) = Some name.now
name_in (Activate new) = Some new.now
name_in line = None

-- its arguments, with one space between two of them; none if the line has no arguments
abbrev pub arguments_of : Line → Option (List ℕ)
arguments_of (Cap n) = Some (decimal n)
arguments_of (Send msg) = Some (decimal msg)
arguments_of (SendAll msgs) = numbers_text msgs
arguments_of (RecvMany name limit) = Some (name.now ++ 32 ∷ decimal limit)
arguments_of (Clone name new) = Some (name.now ++ 32 ∷ new.now)
arguments_of (Capacity n) = Some (decimal n)
arguments_of (Overflow on) = Some (flag_text on)
arguments_of (Await on) = Some (flag_text on)
arguments_of line = name_in line

-- the line, its LF aside
abbrev pub text_of : Line → List ℕ
text_of line = spaced (word_of line) (arguments_of line)

-- numbers are such as a line can have, a list has at least one, a capacity and a limit are
-- positive, and names are valid
abbrev pub IsInForm : Line → Type 0
IsInForm (Cap n) = IsPositive n
IsInForm (Send msg) = IsU64 msg
IsInForm (SendAll msgs) = (0 < length msgs) × AllByRecursion IsU64 msgs
IsInForm (Capacity n) = IsPositive n
IsInForm (RecvMany name limit) = IsName name.now × IsPositive limit
IsInForm (Clone name new) = IsName name.now × IsName new.now
IsInForm line = IfSome (name_in line) IsName
