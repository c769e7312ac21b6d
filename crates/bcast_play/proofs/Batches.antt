-- What a batch gives, and what `try_recv` says if it gives none.
use Rattle.std.proofs.Common.{◌≡◌, inl, inr, ℕ, ◌<◌, ◌-◌, List, [], ◌∷◌, length, max, Option, Some, None, Ok, Err, sym, ◌∙◌, arith, IsSomeAnd}
use Rattle.std.specs.Option.{option_map_or}
use Rattle.std.proofs.lemmas.Bool.{cases_lt}
use Rattle.std.proofs.lemmas.Option.{none-some, slice_get_past}
use Rattle.bcast_model.specs.declared.run.Call.TheVariants as call
use Rattle.bcast_model.specs.declared.run.Reply.TheVariants as reply
use Rattle.bcast_model.specs.Words.{Found, Answers, ClonesEqual, IsReceivedBy, IsValidView, NoClone, View, cursor_of, kept_at, missed, skipped_count, try_recv_reply, unread}
use Rattle.bcast_model.proofs.Cases.{lagging_reply, passed_reply}
use Rattle.bcast_model.proofs.Clones.{answers_exact, found_message}
use Rattle.bcast_core.specs.Batch.{MayBeRefused, ReceivesEach}
use Rattle.bcast_core.proofs.Tail.{valid_shown}
use Rattle.bcast_text.specs.ScriptAnswer.{answer_of}
use Rattle.bcast_play.specs.ScriptRun.{IsGivenNone}

-- if a clone equals its original, each message that is given is the message itself
pub each_exact : {T : Type 0} {is_clone : T → T → Type 0} → ClonesEqual is_clone → (key : ℕ) (old new : View T) (given : List T) → ReceivesEach (Answers is_clone) key old given new → ReceivesEach (Answers NoClone) key old given new
each_exact equal key old new [] each = each
each_exact equal key old new (msg ∷ given) each = (each.0, answers_exact equal each.1, each_exact equal key each.0 new given each.2)

-- a batch of none changes nothing
pub none_given : {T : Type 0} (is_clone : T → T → Type 0) (key : ℕ) (old new : View T) (given : List T) → length given ≡ 0 → ReceivesEach (Answers is_clone) key old given new → new ≡ old
none_given is_clone key old new [] none each = each
none_given is_clone key old new (msg ∷ given) none each = absurd (omega (arith, none))

-- no clone of a number is refused
some_and : {X : Type 0} {P : X → Type 0} (o : Option X) → ((x : X) → P x → ⊥) → IsSomeAnd o P → ⊥
some_and None never is = is
some_and (Some x) never is = never x is

pub never_refused : (v : View ℕ) (key : ℕ) → MayBeRefused (λ msg. Unit {0}) v key → ⊥
never_refused v key =
    some_and (cursor_of v.control key) (λ cursor. some_and (kept_at v cursor) (λ msg refused. refused tt))

-- ---- a message that `try_recv` gives is there
found_at : (v : View ℕ) → IsValidView v → (o : Option ℕ) (msg : ℕ) → try_recv_reply v o ≡ Ok msg → (skipped_count v.front o ≡ 0) × (0 < option_map_or (λ cursor. v.end - max cursor v.front) o 0)
found_at v valid None msg e = absurd cc
found_at v valid (Some cursor) msg e = elim (cases_lt cursor v.front) [
  | inl lags ↦ (let is = sym (lagging_reply v cursor lags) ∙ e in absurd cc)
  | inr passed ↦ elim (cases_lt cursor v.end) [
    | inl there ↦ (omega (arith, passed), omega (arith, passed, there))
    | inr past ↦ (let none = slice_get_past v.queue (cursor - v.front) (omega (arith, valid.end, passed, past)) in
        absurd (none-some msg (sym none ∙ found_message v.control.closed (kept_at v cursor) msg (sym (passed_reply v cursor passed) ∙ e))))
  ]
]

found : (v : View ℕ) (key msg : ℕ) (o : Option ℕ) → IsReceivedBy NoClone v key o reply.TryRecv (reply.TryRecv (Ok (Ok msg))) → try_recv_reply v o ≡ Ok msg
found v key msg o (inl e) = cc
found v key msg o (inr (owed, inl (other, given, was, cloned, e))) = absurd cloned
found v key msg o (inr (owed, inr e)) = absurd cc

pub message_there : {key msg : ℕ} {v new : View ℕ} → Answers NoClone v (call.TryRecv key) (reply.TryRecv (Ok (Ok msg))) new → (missed v key ≡ 0) × (0 < unread v key)
message_there {key = key} {msg = msg} {v = v} a =
    let o = cursor_of v.control key in
    found_at v (valid_shown a.shown) o msg (found v key msg o a.legal)

-- nothing was missed by a receiver that is given some
pub batch_there : (key : ℕ) (v new : View ℕ) (given : List ℕ) → 0 < length given → ReceivesEach (Answers NoClone) key v given new → missed v key ≡ 0
batch_there key v new [] some each = absurd (omega (arith, some))
batch_there key v new (msg ∷ given) some each = (message_there each.1).0

-- if there is none, it says why
pub given_none : {key : ℕ} {v new : View ℕ} {text : List ℕ} (answer : Found ℕ) → Answers NoClone v (call.TryRecv key) (reply.TryRecv answer) new → ((missed v key ≡ 0) × (0 < unread v key) → ⊥) → answer_of (reply.TryRecv answer) ≡ Some text → IsGivenNone v key text new
given_none (Ok (Ok msg)) a none spelt = absurd (none (message_there a))
given_none (Ok (Err error)) a none spelt = record { error = error; answers = a; spelt = spelt }
given_none (Err refused) a none spelt = absurd cc
