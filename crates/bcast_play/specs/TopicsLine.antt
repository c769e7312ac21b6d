-- The text of each line on topics, and which numbers and names are in form.
use Rattle.std.specs.Prelude.{ℕ, List, ◌++◌, ◌∷◌, codes, decimal}
use Rattle.topics.specs.Name as topic_name
use Rattle.bcast_text.specs.Name as follower_name
use Rattle.bcast_text.specs.Words.{IsU64, IsPositive}
use Rattle.bcast_play.specs.declared.hub.line.Line.{Line}
use Rattle.bcast_play.specs.declared.hub.line.Line.TheVariants.{Open, Follow, Publish, Receive, Leave, Close}

-- the line's first word
abbrev pub word_of : Line → List ℕ
word_of (Open topic n) = codes "open"
word_of (Follow topic new) = codes "follow"
word_of (Publish topic msg) = codes "publish"
word_of (Receive name) = codes "receive"
word_of (Leave name) = codes "leave"
word_of (Close topic) = codes "close"

-- its arguments, with one space between two of them
abbrev pub arguments_of : Line → List ℕ
arguments_of (Open topic n) = topic.now ++ 32 ∷ decimal n
arguments_of (Follow topic new) = topic.now ++ 32 ∷ new.now
arguments_of (Publish topic msg) = topic.now ++ 32 ∷ decimal msg
arguments_of (Receive name) = name.now
arguments_of (Leave name) = name.now
arguments_of (Close topic) = topic.now

-- the line, its LF aside
abbrev pub text_of : Line → List ℕ
text_of line = word_of line ++ 32 ∷ arguments_of line

-- the names of topics and followers are valid, numbers are such as a line can have, and a capacity
-- is positive
abbrev pub IsInForm : Line → Type 0
IsInForm (Open topic n) = topic_name.IsName topic.now × IsPositive n
IsInForm (Follow topic new) = topic_name.IsName topic.now × follower_name.IsName new.now
IsInForm (Publish topic msg) = topic_name.IsName topic.now × IsU64 msg
IsInForm (Receive name) = follower_name.IsName name.now
IsInForm (Leave name) = follower_name.IsName name.now
IsInForm (Close topic) = topic_name.IsName topic.now
