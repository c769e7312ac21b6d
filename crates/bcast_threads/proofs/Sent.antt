-- What was sent is accepted, and stays so.
use Rattle.std.proofs.Common.{◌≡◌, inl, inr, ℕ, ◌+◌, ◌||◌, Bool, true, false, nat_eq, List, [], ◌∷◌, ◌++◌, slice_index_or, Option, Result, Ok, Err, refl, sym, ap, ◌∙◌, subst, arith}
use Rattle.std.proofs.lemmas.Grind.{common_steps}
use Rattle.std.proofs.lemmas.Bool.{cases_eq, cases_lt}
use Rattle.std.proofs.lemmas.List.Folds.{Any-from_list_any, list_any-append}
use Rattle.std.specs.Prelude.{Contains}
use Rattle.std.specs.List.{list_any}
use Rattle.std.specs.Result.{is_err}
use mathlib.Core.List.{IsPrefix}
use Rattle.bcast_model.specs.declared.error.SendError.{SendError}
use Rattle.bcast_model.specs.declared.run.Call.{Call}
use Rattle.bcast_model.specs.declared.run.Call.TheVariants as call
use Rattle.bcast_model.specs.declared.run.Reply.TheVariants as reply
use Rattle.bcast_model.specs.declared.run.SendPoll.TheVariants as send
use Rattle.bcast_model.specs.declared.run.Reply.{Reply}
use Rattle.bcast_laws.specs.Sends.{is_accepted}
use Rattle.bcast_history.specs.declared.step.Opening.{Opening}
use Rattle.bcast_history.specs.declared.step.Step.{Step}
use Rattle.bcast_history.specs.History.{IsHistory, Follows, accepted_by}
use Rattle.bcast_history.specs.Laws.{SendsStandLast}
use Rattle.bcast_history.specs.Log.{IsWholeLog}
use Rattle.bcast_history.proofs.Closed.{closed_keeps, log_is_accepted}
use Rattle.bcast_history.proofs.Prefixes.{meet, prefix_trans}
use Rattle.bcast_history.proofs.Sent.{accepted_grows}
use Rattle.bcast_threads.specs.Lists.{HasAll, AreBeforeClosing, WereSent}

abbrev Has : List ℕ → ℕ → Type 0
Has list number = list_any (nat_eq number) list ≡ true

still_there : (msgs later : List ℕ) (number : ℕ) → IsPrefix msgs later → Has msgs number → Has later number
still_there msgs later number (rest, whole) there =
    subst (λ all. Has all number) whole
    (list_any-append (nat_eq number) msgs rest ∙ ap (λ b. b || list_any (nat_eq number) rest) there)

pushed : (msgs : List ℕ) (number : ℕ) → Has (msgs ++ number ∷ []) number
pushed msgs number =
    grind (arith, common_steps, list_any-append (nat_eq number) msgs (number ∷ []))

pub contained : (list : List ℕ) (number : ℕ) → Has list number → Contains list number
contained list number there =
    let (place, found, within, at, is) = Any-from_list_any (nat_eq number) list there in
    let same : found ≡ number = grind (arith, common_steps, is) in
    (place, within, subst (λ n. slice_index_or list place n ≡ n) same at)

all_stay : (o : Opening) (first end : ℕ) (known later : List (Step ℕ)) → IsPrefix known later
    → HasAll first end (accepted_by o known) → HasAll first end (accepted_by o later)
all_stay o first end known later begins all number from before =
    still_there (accepted_by o known) (accepted_by o later) number (accepted_grows o known later begins) (all number from before)

-- one more number
pub one_more : {is_clone : ℕ → ℕ → Type 0} {o : Opening} (first : ℕ) {end : ℕ} {known after : List (Step ℕ)} {r : Reply ℕ}
    → SendsStandLast is_clone → HasAll first end (accepted_by o known)
    → Follows is_clone o known (call.AttemptSend end) r after → is_accepted r ≡ true → HasAll first (end + 1) (accepted_by o after)
one_more {o = o} first {end = end} {known = known} {after = after} {r = r} law all follows accepted number from before =
    let last = law o known after (call.AttemptSend end) r follows accepted in
    subst (λ msgs. Has msgs number) (sym last.2) (elim (cases_eq number end) [
      | inl same ↦ subst (λ n. Has (last.0 ++ end ∷ []) n) (sym same) (pushed last.0 end)
      | inr differs ↦ still_there last.0 (last.0 ++ end ∷ []) number (end ∷ [], refl)
          (still_there (accepted_by o known) last.0 number last.1 (all number from (omega (arith, before, differs))))
    ])

-- what was accepted stays so after a call
pub all_after : {is_clone : ℕ → ℕ → Type 0} {o : Opening} (first end : ℕ) {known after : List (Step ℕ)} {c : Call ℕ} {r : Reply ℕ}
    → Follows is_clone o known c r after → HasAll first end (accepted_by o known) → HasAll first end (accepted_by o after)
all_after {o = o} first end {known = known} {after = after} made all =
    all_stay o first end known after (prefix_trans known made.before after made.begins (_, sym made.last)) all

-- two ranges that meet
pub joined : (first middle next end : ℕ) (msgs : List ℕ) → next ≡ middle → HasAll first middle msgs → HasAll next end msgs → HasAll first end msgs
joined first middle next end msgs meet low high number from before = elim (cases_lt number middle) [
  | inl below ↦ low number from below
  | inr above ↦ high number (omega (arith, above, meet)) before
]

-- what isn't refused is accepted
pub not_refused : (sent : Result (Option ℕ) (SendError ℕ)) → is_err sent ≡ false → is_accepted (reply.AttemptSend (send.Ready sent)) ≡ true
not_refused (Ok back) is = refl
not_refused (Err error) is = absurd cc

-- what was accepted by a run was so before it closed the channel
pub before_closing : (is_clone : ℕ → ℕ → Type 0) (o : Opening) (first end : ℕ) (steps : List (Step ℕ))
    → IsHistory is_clone o steps → HasAll first end (accepted_by o steps) → AreBeforeClosing o first end steps
before_closing is_clone o first end steps run sent closed begins is =
    subst (HasAll first end) (sym (closed_keeps is_clone o closed steps is begins run)) sent

-- what was sent is in each whole log of the channel
pub all_in : {o : Opening} (first end : ℕ) {list : List ℕ} {known steps : List (Step ℕ)} (both : List (Step ℕ)) → IsPrefix known both → IsPrefix steps both
    → IsWholeLog (λ (msg copy : ℕ). copy ≡ msg) o list known → WereSent o first end steps → HasAll first end list
all_in {o = o} first end {known = known} {steps = steps} both begins too log were =
    subst (HasAll first end) (sym (log_is_accepted (λ msg copy same. same) log)) (elim (meet known steps both begins too) [
      | inl sooner ↦ were.before known sooner log.closed
      | inr after ↦ all_stay o first end steps known after were.sent
    ])
