-- One request to a hub.
use Rattle.std.specs.Prelude.{◌≡◌, ◌≢◌, ℕ, List, Option, Some, None, is_some, Ok}
use Rattle.std.specs.HashMap.{get_by_text}
use Rattle.bcast_model.specs.declared.run.Call.{Call}
use Rattle.bcast_model.specs.Words.{View, opening, view_of, Answers}
use Rattle.bcast_model.specs.declared.run.Call.TheVariants as call
use Rattle.bcast_model.specs.declared.run.Reply.TheVariants as reply
use Rattle.topics.specs.declared.request.Request.{Request}
use Rattle.topics.specs.declared.request.Request.TheVariants as request
use Rattle.topics.specs.declared.request.Answer.{Answer}
use Rattle.topics.specs.declared.request.Answer.TheVariants as answer
use Rattle.topics.specs.declared.hub.Hub.{Hub}
use Rattle.topics.specs.Request.{name_of, call_of, IsAnswer}

-- what is seen of topics: for each name under which one was opened, its channel
abbrev pub Topics : Type 0 → Type 0
Topics T = List ℕ → Option (View T)

-- a hub's topics, whatever hashes their names
abbrev pub topic_of : {T A S Hasher : Type 0} → Hub T A S Hasher → Topics T
topic_of hub name = get_by_text hub.topics name

module _ {T : Type 0} (is_clone : T → T → Type 0) where
  -- `broadcast`, then `deactivate`: a channel of this capacity whose first receiver is inactive
  abbrev pub IsNew : ℕ → Option (View T) → Type 0
  IsNew capacity (Some topic) =
      (first_key : ℕ) × Answers is_clone (view_of (opening capacity 0 first_key))
      (call.Deactivate first_key) (reply.Deactivate (Ok tt)) topic
  IsNew capacity None = ⊥

  -- by the answer, what becomes of a topic that is to be opened
  abbrev pub IsOpened : ℕ → Answer T → Option (View T) → Option (View T) → Type 0
  IsOpened capacity answer.Opened old new = IsNew capacity new
  IsOpened capacity a old new = new ≡ old

  -- by the answer, what becomes of a topic that is asked for this call: it is made if `Done`
  abbrev pub IsCall : Option (Call T) → Answer T → Option (View T) → Option (View T) → Type 0
  IsCall (Some c) (answer.Done r) (Some before) (Some after) = Answers is_clone before c r after
  IsCall asked (answer.Done r) old new = ⊥
  IsCall asked a old new = new ≡ old

  -- by the answer, what becomes of the topic of a request
  abbrev pub Changes : {A : Type 0}
      → Request T A → Answer T → Option (View T) → Option (View T) → Type 0
  Changes (request.Open name capacity) a old new = IsOpened capacity a old new
  Changes r a old new = IsCall (call_of r) a old new

-- the topics of all other names are unchanged
abbrev pub KeepsOthers : {T : Type 0} → Topics T → List ℕ → Topics T → Type 0
KeepsOthers old name new = (other : List ℕ) → other ≢ name → new other ≡ old other

-- one request: its answer, what becomes of its topic, and that the others are unchanged
pub record Asks
    {T A : Type 0} (is_clone : T → T → Type 0) (old : Topics T) (r : Request T A) (a : Answer T)
    (new : Topics T) : Type 0 where
  pub answer : IsAnswer (is_some (old (name_of r))) r a
  pub topic : Changes is_clone r a (old (name_of r)) (new (name_of r))
  pub others : KeepsOthers old (name_of r) new
