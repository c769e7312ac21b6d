-- What one more entry adds to the replay and to the notes of the journal, and which entry a note is of.
use Rattle.std.proofs.Common.{◌≡◌, List, [], ◌∷◌, ◌++◌, map, sym, ap, ◌∙◌, rules, ℕ, zero, suc, Some, slice_get, length, refl, subst}
use Rattle.std.proofs.lemmas.List.{map-append, map_push}
use Rattle.std.proofs.lemmas.Simd.{map-map}
use mathlib.Core.List.{IsPrefix}
use Rattle.bcast_model.specs.Words.{HasPositiveCapacity, View, Answers}
use Rattle.bcast_model.proofs.Lists.{all_append}
use Rattle.bcast_model.proofs.DeliveryLists.{in_longer}
use Rattle.bcast_history.specs.declared.step.Opening.{Opening}
use Rattle.bcast_history.specs.declared.step.Step.{Step}
use Rattle.bcast_history.proofs.Keeping.{calls_of-more, replays_longer}
use Rattle.bcast_record.specs.declared.entry.Entry.{Entry}
use Rattle.bcast_record.specs.Recording.{recording, notes_of}
use Rattle.bcast_record.specs.Replay.{Replays, MayRunAgain, calls_of, steps_of}
use Rattle.bcast_record.specs.declared.entry.Note.TheVariants as note

module _ {T : Type 0} where
  abbrev step_of : Entry T → Step T
  step_of entry = record { call = entry.call; reply = entry.reply }

  -- without the seats, it's one more step
  steps_of-push : (o : Opening) (entries longer : List (Entry T)) (entry : Entry T) → longer ≡ entries ++ entry ∷ []
      → steps_of (recording o longer) ≡ steps_of (recording o entries) ++ step_of entry ∷ []
  steps_of-push o entries longer entry pushed = ap (λ es. steps_of (recording o es)) pushed ∙ map-append (λ e. step_of e) entries (entry ∷ [])

  pub calls_of-entries : (o : Opening) (entries : List (Entry T)) → map (λ e. e.call) entries ≡ calls_of (recording o entries)
  calls_of-entries o entries = sym (map-map (λ s. s.call) (λ e. step_of e) entries)

  pub replays_push : {is_clone : T → T → Type 0} (o : Opening) (entries longer : List (Entry T)) {seen after : View T} (entry : Entry T)
      → longer ≡ entries ++ entry ∷ [] → Replays is_clone (recording o entries) seen → Answers is_clone seen entry.call entry.reply after
      → Replays is_clone (recording o longer) after
  replays_push o entries longer entry pushed replays answers = replays_longer (steps_of-push o entries longer entry pushed) replays answers

  pub may_run_again_push : (o : Opening) (entries longer : List (Entry T)) (entry : Entry T)
      → longer ≡ entries ++ entry ∷ [] → MayRunAgain (recording o entries) → HasPositiveCapacity entry.call → MayRunAgain (recording o longer)
  may_run_again_push o entries longer entry pushed may positive =
      let steps = steps_of (recording o entries) in
      let calls = ap (map (λ s. s.call)) (steps_of-push o entries longer entry pushed) ∙ calls_of-more steps (step_of entry) in
      search (rules, may, calls, positive, all_append HasPositiveCapacity (calls_of (recording o entries)) (entry.call ∷ []))

-- what a list has at a place, a longer one has there
pub found_there : {X : Type 0} (xs ys : List X) → IsPrefix xs ys → (place : ℕ) (x : X) → slice_get xs place ≡ Some x → slice_get ys place ≡ Some x
found_there xs ys p place x at = subst (λ all. slice_get all place ≡ Some x) p.1 (in_longer xs p.0 place x at)

module _ {T : Type 0} where
  -- the entry of a note is one place before it
  pub entry_of_note : (opening : Opening) (entries : List (Entry T)) (place : ℕ) (entry : Entry T)
      → slice_get (notes_of opening entries) (suc place) ≡ Some (note.Answered entry) → slice_get entries place ≡ Some entry
  entry_of_note opening [] place entry at = absurd cc
  entry_of_note opening (e ∷ entries) zero entry at = cc at
  entry_of_note opening (e ∷ entries) (suc place) entry at = entry_of_note opening entries place entry at

  pub notes_of-push : (opening : Opening) (entries : List (Entry T)) (entry : Entry T)
      → notes_of opening (entries ++ entry ∷ []) ≡ notes_of opening entries ++ note.Answered entry ∷ []
  notes_of-push opening entries entry = ap (λ notes. note.Opened opening ∷ notes) (map_push note.Answered entries entry)

  -- the last note is that of the last entry
  pub last_note : (opening : Opening) (entries : List (Entry T)) (entry : Entry T)
      → slice_get (notes_of opening (entries ++ entry ∷ [])) (suc (length entries)) ≡ Some (note.Answered entry)
  last_note opening [] entry = refl
  last_note opening (e ∷ entries) entry = last_note opening entries entry
