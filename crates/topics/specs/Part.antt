-- Lists of requests: each topic's part of the calls.
use Rattle.std.specs.Prelude.{◌≡◌, ℕ, List, [], ◌∷◌, ◌++◌, map, filter, filter_map, slice_get, Option, None, Some, is_some, Ok}
use Rattle.std.specs.Str.{bytes_eq}
use Rattle.bcast_model.specs.declared.run.Call.{Call}
use Rattle.bcast_model.specs.declared.run.Reply.{Reply}
use Rattle.bcast_model.specs.Words.{View, History, opening, view_of, IsRun, end_of_run, IsValid}
use Rattle.bcast_model.specs.declared.run.Call.TheVariants as call
use Rattle.bcast_model.specs.declared.run.Reply.TheVariants as reply
use Rattle.topics.specs.declared.request.Request.{Request}
use Rattle.topics.specs.declared.request.Request.TheVariants as request
use Rattle.topics.specs.declared.request.Answer.{Answer}
use Rattle.topics.specs.declared.request.Answer.TheVariants as answer
use Rattle.topics.specs.declared.hub.Hub.{Hub}
use Rattle.topics.specs.Request.{name_of, call_of, IsAnswer}
use Rattle.topics.specs.Hub.{topic_of}

-- a request and its answer
abbrev pub Exchange : Type 0 → Type 0 → Type 0
Exchange T A = Request T A × Answer T

-- a call and its reply
abbrev pub Called : Type 0 → Type 0
Called T = Call T × Reply T

module _ {T A : Type 0} where
  -- the requests on this name, with their answers
  abbrev pub on_name : List ℕ → List (Exchange T A) → List (Exchange T A)
  on_name name all = filter (λ e. bytes_eq (name_of e.0) name) all

  -- the capacity with which a request opened its topic, if it did
  abbrev pub opens : Request T A → Answer T → Option ℕ
  opens (request.Open name capacity) answer.Opened = Some capacity
  opens r a = None

  -- the capacity with which one of these requests, all on one name, opened its topic, if one did
  abbrev pub opened_by : List (Exchange T A) → Option ℕ
  opened_by mine = slice_get (filter_map (λ e. opens e.0 e.1) mine) 0

  -- each answer fits what was opened before it
  abbrev pub AreAnswers : List (Exchange T A) → List (Exchange T A) → Type 0
  AreAnswers before [] = Unit {0}
  AreAnswers before ((r, a) ∷ more) =
      IsAnswer (is_some (opened_by (on_name (name_of r) before))) r a
      × AreAnswers (before ++ (r, a) ∷ []) more

module _ {T : Type 0} where
  -- the call of a request that was answered `Done`, with its reply
  abbrev pub call_done : Option (Call T) → Answer T → Option (Called T)
  call_done (Some c) (answer.Done r) = Some (c, r)
  call_done asked a = None

  -- the calls of these requests that were answered `Done`, in order
  abbrev pub done_by : {A : Type 0} → List (Exchange T A) → List (Called T)
  done_by mine = filter_map (λ e. call_done (call_of e.0) e.1) mine

  -- a topic's part of the calls: its first receiver is deactivated, then these are done
  abbrev pub part_of : ℕ → List (Called T) → List (Called T)
  part_of first_key done = (call.Deactivate first_key, reply.Deactivate (Ok tt)) ∷ done

-- these calls and replies are a run, and the topic is seen as the run's end is
pub record IsRunOf
    {T : Type 0} (is_clone : T → T → Type 0) (h : History T) (part : List (Called T))
    (topic : Option (View T)) : Type 0 where
  pub run : IsRun is_clone h (map (λ p. p.0) part) (map (λ p. p.1) part)
  pub end : topic ≡ Some (view_of (end_of_run h (map (λ p. p.0) part) (map (λ p. p.1) part)))
  pub valid : IsValid (end_of_run h (map (λ p. p.0) part) (map (λ p. p.1) part))

module _ {T : Type 0} (is_clone : T → T → Type 0) where
  -- a topic, by the capacity with which it was opened, if it was, and by the calls done on it
  abbrev pub IsTopic : Option ℕ → List (Called T) → Option (View T) → Type 0
  IsTopic None done topic = (topic ≡ None) × (done ≡ [])
  IsTopic (Some capacity) done topic =
      (first_key : ℕ)
      × IsRunOf is_clone (opening capacity 0 first_key) (part_of first_key done) topic

  -- every topic is a channel of its own, whatever requests on other names are in between
  abbrev pub AreTopics : {A S Hasher : Type 0}
      → List (Exchange T A) → Hub T A S Hasher → Type 0
  AreTopics all hub =
      (name : List ℕ) → let mine = on_name name all in
      IsTopic (opened_by mine) (done_by mine) (topic_of hub name)
