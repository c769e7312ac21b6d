-- What a script does: its channel, and the answer to each line.
use Rattle.std.specs.Prelude.{◌≡◌, ◌≢◌, ◌<◌, ◌⊎◌, ⊤, ℕ, min, List, [], ◌∷◌, ◌++◌, length, Option, Some, None, Ok, Err, codes, decimal, bytes_eq}
use Rattle.std.specs.Map.{update}
use Rattle.bcast_model.specs.declared.run.Call.TheVariants as call
use Rattle.bcast_model.specs.declared.run.Reply.TheVariants as reply
use Rattle.bcast_model.specs.declared.run.Call.{Call}
use Rattle.bcast_model.specs.Words.{View, opening, unread, Answers, Represents, NoClone}
use Rattle.bcast_model.specs.declared.error.TryRecvError.{TryRecvError}
use Rattle.bcast_model.specs.declared.run.Reply.{Reply}
use Rattle.bcast_core.specs.Batch.{ReceivesEach}
use Rattle.bcast_text.specs.declared.script.line.Line.{Line}
use Rattle.bcast_text.specs.declared.script.line.Line.TheVariants.{Cap}
use Rattle.bcast_text.specs.ScriptLine.{text_of, IsInForm}
use Rattle.bcast_text.specs.ScriptCall.{call_of, batch_of, names_after}
use Rattle.bcast_text.specs.ScriptAnswer.{answer_of, batch_text}

-- a channel whose receivers have names: what is seen of it, and the key of each name
pub record Named : Type 0 where
  pub view : View ℕ
  pub key_of : List ℕ → Option ℕ

-- a line's call is made, and its reply is written
pub record IsCalled (old : Named) (line : Line) (answer : List ℕ) (new : Named) : Type 0 where
  pub call : Call ℕ
  pub asked : call_of old.key_of line ≡ Some call
  pub reply : Reply ℕ
  pub answers : Answers NoClone old.view call reply new.view
  pub names : (name : List ℕ) → new.key_of name ≡ names_after old.key_of line reply name
  pub text : List ℕ
  pub spelt : answer_of reply ≡ Some text
  pub ended : answer ≡ text ++ 10 ∷ []

-- the messages that the receiver `key` has to read are received, at most so many, and written
pub record AreGiven (old : View ℕ) (key limit : ℕ) (text : List ℕ) (new : View ℕ) : Type 0 where
  pub msgs : List ℕ
  pub some : 0 < length msgs
  pub all : length msgs ≡ min limit (unread old key)
  pub each : ReceivesEach (Answers NoClone) key old msgs new
  pub spelt : text ≡ batch_text msgs

-- it is given none, and what `try_recv` says of that is written
pub record IsGivenNone (old : View ℕ) (key : ℕ) (text : List ℕ) (new : View ℕ) : Type 0 where
  pub error : TryRecvError
  pub answers : Answers NoClone old (call.TryRecv key) (reply.TryRecv (Ok (Err error))) new
  pub spelt : answer_of (reply.TryRecv (Ok (Err error))) ≡ Some text

-- a line's batch is received
pub record IsReceived (old : Named) (line : Line) (answer : List ℕ) (new : Named) : Type 0 where
  pub key : ℕ
  pub limit : ℕ
  pub asked : batch_of old.key_of line ≡ Some (key, limit)
  pub text : List ℕ
  pub given : AreGiven old.view key limit text new.view ⊎ IsGivenNone old.view key text new.view
  pub names : (name : List ℕ) → new.key_of name ≡ old.key_of name
  pub ended : answer ≡ text ++ 10 ∷ []

-- what a line asks for is done
abbrev pub IsMade : Named → Line → List ℕ → Named → Type 0
IsMade old line answer new = IsCalled old line answer new ⊎ IsReceived old line answer new

-- a new channel of this capacity, whose one receiver is named r1
pub record IsNew (new : Named) (capacity : ℕ) : Type 0 where
  pub key : ℕ
  pub opened : Represents new.view (opening capacity 0 key)
  pub names : (name : List ℕ)
      → new.key_of name ≡ update bytes_eq (λ _. None) (codes "r1") (Some key) name

-- line 1 makes a channel
pub record IsOpened (line answer : List ℕ) (new : Named) : Type 0 where
  pub capacity : ℕ
  pub positive : 0 < capacity
  pub spelt : line ≡ codes "cap " ++ decimal capacity
  pub made : IsNew new capacity
  pub written : answer ≡ codes "ok\n"

-- the answer to a line, before and after line 1
abbrev pub IsScriptLine : Option Named → List ℕ → List ℕ → Option Named → Type 0
IsScriptLine None line answer (Some new) = IsOpened line answer new
IsScriptLine (Some old) line answer (Some new) =
    (asked : Line) × (line ≡ text_of asked) × IsInForm asked × IsMade old asked answer new
IsScriptLine old line answer None = ⊥

-- a line in form that makes no channel, before line 1, or that asks for no call and no batch, after
-- it
abbrev pub AsksForNone : Option Named → Line → Type 0
AsksForNone None (Cap capacity) = ⊥
AsksForNone None asked = ⊤
AsksForNone (Some old) asked =
    (call_of old.key_of asked ≡ None) × (batch_of old.key_of asked ≡ None)

-- the line is not a call: no line in form has its text, or one that asks for none
abbrev pub IsNoScriptLine : Option Named → List ℕ → Type 0
IsNoScriptLine old line =
    ((asked : Line) → IsInForm asked → line ≢ text_of asked)
    ⊎ ((asked : Line) × (line ≡ text_of asked) × IsInForm asked × AsksForNone old asked)
