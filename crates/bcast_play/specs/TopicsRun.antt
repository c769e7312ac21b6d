-- What lines on topics do: the topics, the names of their followers, and the answer to each line.
use Rattle.std.specs.Prelude.{◌≡◌, ◌≢◌, ◌⊎◌, ℕ, List, [], ◌∷◌, ◌++◌, Option, Some, None, codes}
use Rattle.topics.specs.declared.request.Request.{Request}
use Rattle.topics.specs.declared.request.Answer.{Answer}
use Rattle.topics.specs.declared.request.Answer.TheVariants as answer
use Rattle.topics.specs.Name.{IsName}
use Rattle.topics.specs.Request.{name_of}
use Rattle.topics.specs.Hub.{Topics, Asks}
use Rattle.bcast_play.specs.declared.hub.line.Line.{Line}
use Rattle.bcast_play.specs.TopicsLine.{text_of, IsInForm}
use Rattle.bcast_play.specs.TopicsRequest.{Names, IsRequest, names_after, IsAboutNobody}
use Rattle.bcast_text.specs.ScriptAnswer as replies

-- topics whose followers have names
pub record Followed : Type 0 where
  pub topic_of : Topics ℕ
  pub follower_of : Names

-- these topics, and no name is in use
pub record IsWithoutFollowers (topics : Topics ℕ) (first : Followed) : Type 0 where
  pub topics_are : (name : List ℕ) → first.topic_of name ≡ topics name
  pub names : (name : List ℕ) → first.follower_of name ≡ None

-- no topic was opened, and no name is in use
abbrev pub IsWithoutTopics : Followed → Type 0
IsWithoutTopics first = IsWithoutFollowers (λ _. None) first

-- the line that answers, its LF aside; none if the line is not a call or there was no memory
abbrev pub answer_of : Answer ℕ → Option (List ℕ)
answer_of answer.BadName = None
answer_of answer.Exists = Some (codes "exists")
answer_of answer.Memory = None
answer_of answer.Opened = Some (codes "ok")
answer_of answer.NoTopic = Some (codes "no topic")
answer_of (answer.Done replied) = replies.answer_of replied

module _ (A : Type 0) where
  -- a line's request is made, and its answer is written; names are in memory of the allocator A
  pub record IsTopicsLine (old : Followed) (line text : List ℕ) (new : Followed) : Type 0 where
    pub asked : Line
    pub spelt : line ≡ text_of asked
    pub in_form : IsInForm asked
    pub request : Request ℕ A
    pub is_asked : IsRequest old.follower_of asked request
    pub answer : Answer ℕ
    pub asks : Asks (λ msg given. given ≡ msg) old.topic_of request answer new.topic_of
    pub names : (name : List ℕ)
        → new.follower_of name ≡ names_after old.follower_of asked answer name
    pub answered : List ℕ
    pub is_answered : answer_of answer ≡ Some answered
    pub ended : text ≡ answered ++ 10 ∷ []

  -- a line that asks for no request, or for one whose topic's name is not valid
  abbrev pub AsksForNone : Names → Line → Type 0
  AsksForNone names asked =
      IsAboutNobody names asked
      ⊎ ((request : Request ℕ A) × IsRequest names asked request × (IsName (name_of request) → ⊥))

  -- the line is not a call: no line in form has its text, or one that asks for no valid request
  abbrev pub IsNoTopicsLine : Followed → List ℕ → Type 0
  IsNoTopicsLine old line =
      ((asked : Line) → IsInForm asked → line ≢ text_of asked)
      ⊎ ((asked : Line) × (line ≡ text_of asked) × IsInForm asked
      × AsksForNone old.follower_of asked)
