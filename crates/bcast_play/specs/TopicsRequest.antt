-- The request that each line on topics asks for, and the names of followers after it was answered.
use Rattle.std.specs.Prelude.{◌≡◌, ◌≢◌, ℕ, List, Option, Some, None, Ok, bytes_eq, string_bytes}
use Rattle.std.specs.Map.{update}
use Rattle.bcast_model.specs.declared.run.Reply.TheVariants as reply
use Rattle.topics.specs.declared.request.Request.{Request}
use Rattle.topics.specs.declared.request.Request.TheVariants as request
use Rattle.topics.specs.declared.request.Answer.{Answer}
use Rattle.topics.specs.declared.request.Answer.TheVariants as answer
use Rattle.bcast_play.specs.declared.hub.line.Line.{Line}
use Rattle.bcast_play.specs.declared.hub.line.Line.TheVariants as line

-- a follower: the name of the topic, and the key of the receiver there
pub record Following : Type 0 where
  pub topic : List ℕ
  pub key : ℕ

-- the follower of each name that is in use
abbrev pub Names : Type 0
Names = List ℕ → Option Following

-- the request that a line asks for; none if a name must be in use and is not, or must not be and is
abbrev pub IsRequest : {A : Type 0} → Names → Line → Request ℕ A → Type 0
IsRequest names (line.Open topic n) (request.Open name capacity) =
    (string_bytes name ≡ topic.now) × (capacity ≡ n)
IsRequest names (line.Follow topic new) (request.Follow name) =
    (string_bytes name ≡ topic.now) × (names new.now ≡ None)
IsRequest names (line.Publish topic msg) (request.Publish name given) =
    (string_bytes name ≡ topic.now) × (given ≡ msg)
IsRequest names (line.Receive who) (request.Receive name key) =
    names who.now ≡ Some (record { topic = string_bytes name; key = key })
IsRequest names (line.Leave who) (request.Leave name key) =
    names who.now ≡ Some (record { topic = string_bytes name; key = key })
IsRequest names (line.Close topic) (request.Close name) = string_bytes name ≡ topic.now
IsRequest names asked r = ⊥

-- the follower of each name after a line was answered: a new follower has the new name, and the
-- name of one that left is free
abbrev pub names_after : Names → Line → Answer ℕ → Names
names_after names (line.Follow topic new) (answer.Done (reply.NewReceiver (Ok key))) =
    update bytes_eq names new.now (Some (record { topic = topic.now; key = key }))
names_after names (line.Leave who) a = update bytes_eq names who.now None
names_after names asked a = names

-- a line whose follower's name is in use and must not be, or must be and is not
abbrev pub IsAboutNobody : Names → Line → Type 0
IsAboutNobody names (line.Follow topic new) = names new.now ≢ None
IsAboutNobody names (line.Receive who) = names who.now ≡ None
IsAboutNobody names (line.Leave who) = names who.now ≡ None
IsAboutNobody names asked = ⊥
