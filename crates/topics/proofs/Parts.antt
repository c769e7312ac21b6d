-- What one more exchange adds at the end of a list, and what it does to each topic's part of the calls.
use Rattle.std.proofs.Common.{◌≡◌, ℕ, List, [], ◌∷◌, ◌++◌, cond, filter_map, slice_get, Option, None, Some, refl, sym, ap, ◌∙◌, subst, append_assoc, append-nil, length, arith, is_some, bytes_eq, zip, Bool, true, false, true≢false}
use Rattle.std.proofs.lemmas.List.Elements.{filter-append, filter_map-append}
use Rattle.std.specs.Option.{option_or}
use Rattle.std.specs.List.{cons_option}
use Rattle.std.specs.Cmp.Lexicographic.{bytes_decides}
use Rattle.bcast_model.specs.declared.run.Call.{Call}
use Rattle.bcast_model.specs.declared.run.Reply.{Reply}
use Rattle.bcast_model.specs.Words.{View}
use Rattle.topics.specs.declared.request.Request.{Request}
use Rattle.topics.specs.declared.request.Answer.{Answer}
use Rattle.topics.specs.Request.{name_of, call_of, IsAnswer, IsAnswerTo}
use Rattle.topics.specs.Part.{Exchange, on_name, opens, opened_by, AreAnswers, call_done, done_by, Called, IsTopic, AreTopics}
use Rattle.topics.specs.declared.request.Request.TheVariants as request
use Rattle.topics.specs.declared.request.Answer.TheVariants as answer
use Rattle.topics.specs.declared.hub.Hub.{Hub}
use Rattle.topics.specs.Hub.{topic_of, IsNew, IsCall, Changes, Asks}
use Rattle.topics.proofs.Topics.{run_of_more, new_run}

pub option_or-None : {A : Type 0} (o : Option A) → option_or o None ≡ o
option_or-None None = refl
option_or-None (Some x) = refl

-- the first element of two lists in a row
first_of : {X : Type 0} (xs ys : List X) → slice_get (xs ++ ys) 0 ≡ option_or (slice_get xs 0) (slice_get ys 0)
first_of [] ys = refl
first_of (x ∷ xs) ys = refl

module _ {T A : Type 0} where
  pub on_name-last : (name : List ℕ) (es : List (Exchange T A)) (r : Request T A) (a : Answer T) → on_name name (es ++ (r, a) ∷ []) ≡ on_name name es ++ cond (bytes_eq (name_of r) name) ((r, a) ∷ []) []
  on_name-last name es r a = filter-append (λ (e : Exchange T A). bytes_eq (name_of e.0) name) es ((r, a) ∷ [])

  pub opened_by-last : (es : List (Exchange T A)) (r : Request T A) (a : Answer T) → opened_by (es ++ (r, a) ∷ []) ≡ option_or (opened_by es) (slice_get (cons_option (opens r a) []) 0)
  opened_by-last es r a =
      ap (λ (found : List ℕ). slice_get found 0) (filter_map-append (λ (e : Exchange T A). opens e.0 e.1) es ((r, a) ∷ []))
      ∙ first_of (filter_map (λ (e : Exchange T A). opens e.0 e.1) es) (cons_option (opens r a) [])

  pub done_by-last : (es : List (Exchange T A)) (r : Request T A) (a : Answer T) → done_by (es ++ (r, a) ∷ []) ≡ done_by es ++ cons_option (call_done (call_of r) a) []
  done_by-last es r a = filter_map-append (λ (e : Exchange T A). call_done (call_of e.0) e.1) es ((r, a) ∷ [])

  pub answers_more : (before es : List (Exchange T A)) (r : Request T A) (a : Answer T) → AreAnswers before es → IsAnswer (is_some (opened_by (on_name (name_of r) (before ++ es)))) r a → AreAnswers before (es ++ (r, a) ∷ [])
  answers_more before [] r a fit last = (subst (λ es. IsAnswer (is_some (opened_by (on_name (name_of r) es))) r a) (append-nil before) last, tt)
  answers_more before ((q, b) ∷ es) r a fit last = (fit.0, answers_more (before ++ (q, b) ∷ []) es r a fit.1 (subst (λ all. IsAnswer (is_some (opened_by (on_name (name_of r) all))) r a) (sym (append_assoc before ((q, b) ∷ []) es)) last))

pub zip_last : {X Y : Type 0} (xs : List X) (ys : List Y) (x : X) (y : Y) → length ys ≡ length xs → zip (xs ++ x ∷ []) (ys ++ y ∷ []) ≡ zip xs ys ++ (x, y) ∷ []
zip_last [] [] x y n = refl
zip_last [] (z ∷ ys) x y n = absurd (omega (arith, n))
zip_last (z ∷ xs) [] x y n = absurd (omega (arith, n))
zip_last (z ∷ xs) (w ∷ ys) x y n = ap (λ zs. (z, w) ∷ zs) (zip_last xs ys x y (omega (arith, n)))

module _ {T : Type 0} (is_clone : T → T → Type 0) where
  kept : (capacity : Option ℕ) (done : List (Called T)) (old new : Option (View T)) → IsTopic is_clone capacity done old → new ≡ old → IsTopic is_clone (option_or capacity None) (done ++ []) new
  kept capacity done old new topic same = rw (option_or-None, append-nil, same) topic

  is_open : (capacity : Option ℕ) (done : List (Called T)) (old : Option (View T)) → IsTopic is_clone capacity done old → is_some old ≡ is_some capacity
  is_open None done old topic = ap is_some topic.0
  is_open (Some capacity) done old topic = ap is_some topic.1.end

  -- a call on it
  done_more : (capacity : Option ℕ) (done : List (Called T)) (old new : Option (View T)) (c : Call T) (r : Reply T) → IsTopic is_clone capacity done old → IsCall is_clone (Some c) (answer.Done r) old new → IsTopic is_clone (option_or capacity None) (done ++ (c, r) ∷ []) new
  done_more None done old new c r topic is = absurd (subst (λ o. IsCall is_clone (Some c) (answer.Done r) o new) topic.0 is)
  done_more (Some capacity) done (Some before) (Some after) c r topic is = (topic.0, run_of_more is_clone topic.1 is)
  done_more (Some capacity) done old new c r topic is = absurd is

  called : (capacity : Option ℕ) (done : List (Called T)) (old new : Option (View T)) (asked : Option (Call T)) (a : Answer T) → IsTopic is_clone capacity done old → IsCall is_clone asked a old new → IsTopic is_clone (option_or capacity None) (done ++ cons_option (call_done asked a) []) new
  called capacity done old new (Some c) (answer.Done r) topic is = done_more capacity done old new c r topic is
  called capacity done old new None (answer.Done r) topic is = absurd is
  called capacity done old new asked a topic is = kept capacity done old new topic is

-- a name is opened once
opened_once : {T A : Type 0} (r : Request T A) → call_of r ≡ None → IsAnswer true r answer.Opened → ⊥
opened_once r opens_it is =
    let bad = is.bad_name (λ named. let exists = subst (λ c. IsAnswerTo true c answer.Opened) opens_it (is.named named) in absurd (cc)) in cc

module _ {T A : Type 0} (is_clone : T → T → Type 0) where
  -- the request opens the topic
  opened : (capacity : Option ℕ) (done : List (Called T)) (old new : Option (View T)) (r : Request T A) (asked : ℕ) → call_of r ≡ None → IsTopic is_clone capacity done old → IsAnswer (is_some old) r answer.Opened → IsNew is_clone asked new → IsTopic is_clone (option_or capacity (Some asked)) (done ++ []) new
  opened None done old new r asked opens_it topic fit is = subst (λ d. IsTopic is_clone (Some asked) d new) (sym (append-nil done ∙ topic.1)) (new_run is_clone is)
  opened (Some capacity) done old new r asked opens_it topic fit is = absurd (opened_once r opens_it (subst (λ b. IsAnswer b r answer.Opened) (is_open is_clone (Some capacity) done old topic) fit))

  -- the topic of the request's name
  here : (capacity : Option ℕ) (done : List (Called T)) (old new : Option (View T)) (r : Request T A) (a : Answer T) → IsTopic is_clone capacity done old → IsAnswer (is_some old) r a → Changes is_clone r a old new → IsTopic is_clone (option_or capacity (slice_get (cons_option (opens r a) []) 0)) (done ++ cons_option (call_done (call_of r) a) []) new
  here capacity done old new (request.Open name asked) answer.Opened topic fit is = opened capacity done old new (request.Open name asked) asked refl topic fit is
  here capacity done old new (request.Open name asked) a topic fit is = kept is_clone capacity done old new topic is
  here capacity done old new r a topic fit is = called is_clone capacity done old new (call_of r) a topic is

  -- one more request on the topic of these
  here_last : (mine : List (Exchange T A)) (old new : Option (View T)) (r : Request T A) (a : Answer T) → IsTopic is_clone (opened_by mine) (done_by mine) old → IsAnswer (is_some old) r a → Changes is_clone r a old new → IsTopic is_clone (opened_by (mine ++ (r, a) ∷ [])) (done_by (mine ++ (r, a) ∷ [])) new
  here_last mine old new r a topic fit is = rw (opened_by-last mine r a, done_by-last mine r a) (here (opened_by mine) (done_by mine) old new r a topic fit is)

module _ {T A S Hasher : Type 0} (is_clone : T → T → Type 0) where
  -- the topic of any name
  topics_more : (all : List (Exchange T A)) (old new : Hub T A S Hasher) (r : Request T A) (a : Answer T) → AreTopics is_clone all old → Asks is_clone (topic_of old) r a (topic_of new) → AreTopics is_clone (all ++ (r, a) ∷ []) new
  topics_more all old new r a topics asks = λ name.
      subst (λ (mine : List (Exchange T A)). IsTopic is_clone (opened_by mine) (done_by mine) (topic_of new name)) (sym (on_name-last name all r a)) (at name (bytes_eq (name_of r) name) refl)
    where
      at : (name : List ℕ) (b : Bool) → bytes_eq (name_of r) name ≡ b → IsTopic is_clone (opened_by (on_name name all ++ cond b ((r, a) ∷ []) [])) (done_by (on_name name all ++ cond b ((r, a) ∷ []) [])) (topic_of new name)
      at name true same = subst (λ n. IsTopic is_clone (opened_by (on_name n all ++ (r, a) ∷ [])) (done_by (on_name n all ++ (r, a) ∷ [])) (topic_of new n)) ((bytes_decides (name_of r) name).0 same)
          (here_last is_clone (on_name (name_of r) all) (topic_of old (name_of r)) (topic_of new (name_of r)) r a (topics (name_of r)) asks.answer asks.topic)
      at name false differs = subst (λ (mine : List (Exchange T A)). IsTopic is_clone (opened_by mine) (done_by mine) (topic_of new name)) (sym (append-nil (on_name name all)))
          (subst (IsTopic is_clone (opened_by (on_name name all)) (done_by (on_name name all))) (sym (asks.others name (λ same. true≢false (sym ((bytes_decides (name_of r) name).1 (sym same)) ∙ differs)))) (topics name))

  answer_more : (all : List (Exchange T A)) (old new : Hub T A S Hasher) (r : Request T A) (a : Answer T) → AreTopics is_clone all old → Asks is_clone (topic_of old) r a (topic_of new) → AreAnswers [] all → AreAnswers [] (all ++ (r, a) ∷ [])
  answer_more all old new r a topics asks fit = answers_more [] all r a fit
      (subst (λ b. IsAnswer b r a) (is_open is_clone (opened_by (on_name (name_of r) all)) (done_by (on_name (name_of r) all)) (topic_of old (name_of r)) (topics (name_of r))) asks.answer)

module _ {T A S Hasher : Type 0} (is_clone : T → T → Type 0) (requests : List (Request T A)) (answers more : List (Answer T)) (r : Request T A) (a : Answer T) (old new : Hub T A S Hasher) where
  pub exchanged : more ≡ answers ++ a ∷ [] → length answers ≡ length requests → AreAnswers [] (zip requests answers) → AreTopics is_clone (zip requests answers) old → Asks is_clone (topic_of old) r a (topic_of new)
      → AreAnswers [] (zip (requests ++ r ∷ []) more) × AreTopics is_clone (zip (requests ++ r ∷ []) more) new
  exchanged last count fit topics asks =
      subst (λ all. AreAnswers [] all × AreTopics is_clone all new) (sym (ap (zip (requests ++ r ∷ [])) last ∙ zip_last requests answers r a count))
      (answer_more is_clone (zip requests answers) old new r a topics asks fit, topics_more is_clone (zip requests answers) old new r a topics asks)
