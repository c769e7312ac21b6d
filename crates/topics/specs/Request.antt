-- Requests, and which answer each has.
use Rattle.std.specs.Prelude.{◌≡◌, ℕ, ◌<◌, ◌⊎◌, List, Bool, true, false, Option, None, Some}
use Rattle.std.specs.String.{string_bytes}
use Rattle.bcast_model.specs.declared.run.Call.{Call}
use Rattle.bcast_model.specs.declared.run.Reply.{Reply}
use Rattle.bcast_model.specs.declared.run.Call.TheVariants as call
use Rattle.topics.specs.declared.request.Request.{Request}
use Rattle.topics.specs.declared.request.Request.TheVariants as request
use Rattle.topics.specs.declared.request.Answer.{Answer}
use Rattle.topics.specs.declared.request.Answer.TheVariants as answer
use Rattle.topics.specs.Name.{IsName}

module _ {T A : Type 0} where
  -- the bytes of the name that a request is about
  abbrev pub name_of : Request T A → List ℕ
  name_of (request.Open name capacity) = string_bytes name
  name_of (request.Follow name) = string_bytes name
  name_of (request.Publish name msg) = string_bytes name
  name_of (request.Receive name key) = string_bytes name
  name_of (request.Leave name key) = string_bytes name
  name_of (request.Close name) = string_bytes name

  -- the state call that a request makes on an open topic
  abbrev pub call_of : Request T A → Option (Call T)
  call_of (request.Open name capacity) = None
  call_of (request.Follow name) = Some call.NewReceiver
  call_of (request.Publish name msg) = Some (call.TryBroadcast msg)
  call_of (request.Receive name key) = Some (call.TryRecv key)
  call_of (request.Leave name key) = Some (call.DropReceiver key)
  call_of (request.Close name) = Some call.Close

  -- a topic is opened with a positive capacity
  abbrev pub OpensPositive : Request T A → Type 0
  OpensPositive (request.Open name capacity) = 0 < capacity
  OpensPositive r = Unit {0}

-- the answer about a name, by whether a topic of it is open, and by the call that is asked for
abbrev pub IsAnswerTo : {T : Type 0} → Bool → Option (Call T) → Answer T → Type 0
IsAnswerTo {T} true None a = a ≡ answer.Exists
IsAnswerTo {T} false None a = (a ≡ answer.Memory) ⊎ (a ≡ answer.Opened)
IsAnswerTo {T} false (Some c) a = a ≡ answer.NoTopic
IsAnswerTo {T} true (Some c) a = (reply : Reply T) × (a ≡ answer.Done reply)

-- the answer to a request
pub record IsAnswer {T A : Type 0} (is_open : Bool) (r : Request T A) (a : Answer T) : Type 0 where
  pub bad_name : (IsName (name_of r) → ⊥) → a ≡ answer.BadName
  pub named : IsName (name_of r) → IsAnswerTo is_open (call_of r) a
