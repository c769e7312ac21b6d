-- What a receiver skips.
use Rattle.std.proofs.Common.{◌≡◌, inl, inr, ℕ, ◌≤◌, List, Option, Result, Ok, Err, refl, arith, subst, IsErr}
use Rattle.std.proofs.lemmas.Bool.{cases_lt}
use Rattle.std.specs.declared.alloc.AllocError.{AllocError}
use mathlib.Core.List.{IsPrefix}
use Rattle.futures.specs.declared.task.Poll.{Poll}
use Rattle.bcast_model.specs.declared.error.TryRecvError.TheVariants as unread
use Rattle.bcast_model.specs.declared.run.Call.{Call}
use Rattle.bcast_model.specs.declared.run.Reply.{Reply}
use Rattle.bcast_model.specs.Words.{next}
use Rattle.bcast_history.specs.History.{Opening, Step, end_of}
use Rattle.bcast_history.specs.Makes.{MakesReceives}
use Rattle.bcast_history.specs.Reader.{Finds, Skips, Takes, TakesNext, as_tried}
use Rattle.bcast_history.specs.Tracker.{Tracker, number}
use Rattle.bcast_history.proofs.Receiving.{receives_on}
use Rattle.bcast_history.proofs.Sent.{kept_later}

-- what is gone stays so
floor_rises : {T : Type 0} (o : Opening) (known later : List (Step T)) → IsPrefix known later → (end_of o known).floor ≤ (end_of o later).floor
floor_rises o known later begins = kept_later (λ h. (end_of o known).floor ≤ h.floor) (λ h c r low. omega (arith, low)) o known later begins (omega arith)

-- by receives, and no other call
pub record HasSkipped {T : Type 0} (learns : Tracker T → Call T → Reply T → Tracker T → Type 0) (o : Opening) (old now : Tracker T) : Type 0 where
  pub made : MakesReceives learns old now
  pub skips : Skips (end_of o now.steps) (number old.next) (number now.next)

module _
    {T : Type 0} {learns : Tracker T → Call T → Reply T → Tracker T → Type 0} (is_clone : T → T → Type 0) (o : Opening)
    (old mid new : Tracker T) (skipped : HasSkipped learns o old mid) (longer : IsPrefix mid.steps new.steps) where
  -- it skips more
  skips_on : (to : ℕ) → Skips (end_of o new.steps) (number mid.next) to → Skips (end_of o new.steps) (number old.next) to
  skips_on to more =
      let behind = skipped.skips.0 in
      let on = more.0 in
      let rise = floor_rises o mid.steps new.steps longer in (
        omega (arith, behind, on),
        λ n from below. elim (cases_lt n (number mid.next)) [
          | inl before ↦ (let gone = skipped.skips.1 n from before in omega (arith, gone, rise))
          | inr past ↦ more.1 n past below
        ],
      )

  -- it stays where it is
  stays : (to : ℕ) → to ≡ number mid.next → Skips (end_of o new.steps) (number old.next) to
  stays to same = skips_on to (omega (arith, same), λ n from below. absurd (omega (arith, same, from, below)))

  pub skips : (n : ℕ) → MakesReceives learns mid new → Takes is_clone o mid new (Ok (Err (unread.Overflowed n))) → HasSkipped learns o old new
  skips n more takes = record { made = receives_on skipped.made more; skips = skips_on (number new.next) takes.2 }

  pub errs_next : (p : Result (Poll (Option T)) AllocError) → IsErr p → number new.next ≡ number mid.next → TakesNext is_clone o old new p
  errs_next (Ok found) is same = absurd (cc is)
  errs_next (Err error) is same = stays (number new.next) same

  pub finds_next : (found : Poll (Option T)) → Takes is_clone o mid new (Ok (as_tried found)) → TakesNext is_clone o old new (Ok found)
  finds_next found takes =
      let finds = subst (λ key. Finds is_clone (end_of o new.steps) key (number mid.next) (number new.next) (Ok (as_tried found))) skipped.made.key takes in
      (number mid.next, stays (number mid.next) refl, finds)
