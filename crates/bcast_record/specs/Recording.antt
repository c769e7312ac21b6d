-- What a recorder stores.
use Rattle.std.specs.Prelude.{ℕ, List, [], ◌∷◌, ◌++◌, map}
use Rattle.bcast_history.specs.declared.step.Opening.{Opening}
use Rattle.bcast_record.specs.declared.entry.Entry.{Entry}
use Rattle.bcast_record.specs.declared.entry.Note.{Note}
use Rattle.bcast_record.specs.declared.entry.Note.TheVariants as note

-- what the channel was opened with, and the calls with their replies, in the order of the replies
pub record Recording (T : Type 0) : Type 0 where
  pub opening : Opening
  pub entries : List (Entry T)

-- a receipt: an entry, and its index among the entries
pub record Placed (T : Type 0) : Type 0 where
  pub place : ℕ
  pub entry : Entry T

module _ {T : Type 0} where
  abbrev pub recording : Opening → List (Entry T) → Recording T
  recording opening entries = record { opening = opening; entries = entries }

  abbrev pub new_recording : ℕ → ℕ → Recording T
  new_recording capacity first_key =
      recording (record { capacity = capacity; first_number = 0; first_key = first_key }) []

  -- with one more entry
  abbrev pub with_entry : Recording T → Entry T → Recording T
  with_entry r entry = recording r.opening (r.entries ++ entry ∷ [])

  -- what the journal notes: the opening, then each entry
  abbrev pub notes_of : Opening → List (Entry T) → List (Note T)
  notes_of opening entries = note.Opened opening ∷ map note.Answered entries
