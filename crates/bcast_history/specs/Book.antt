-- The book behind a journal. Each entry of its log brought a cell home, and names the cell that the
-- next entry of its chain is to bring home. A journal is one chain, and a log may have several.
use Rattle.std.specs.Prelude.{ℕ, ◌≡◌, ◌≢◌, ◌==◌, if◌then◌else◌, true, List, [], ◌∷◌, ◌++◌}
use Rattle.std.specs.List.{All, cons_option}
use base.Stored.{Coded, coded×, coded_ℕ, coded_via}
use mathlib.Core.List.{IsPrefix}
use Rattle.logbook.specs.Pages.{Cell, cell, Step, View, Book, book_coded, Named, may_make}
use Rattle.bcast_history.specs.declared.rule.Entry.{Entry}

-- which journal it is: its book, and the cell that its first note is to bring home
pub record Chain : Type 0 where
  pub book : Book
  pub first : ℕ

abbrev pub chain_coded : Coded Chain
chain_coded =
    coded_via (coded× book_coded coded_ℕ) (λ (c : Chain). (c.book, c.first))
    (λ x y e i. record { book = (e i).0; first = (e i).1 })

-- the word by which the steps on a book are made. Its number says nothing
abbrev pub head_of : Book → Named
head_of book = record { tracked = true; key = 0; book = book }

abbrev pub IsHome : List Cell → ℕ → Type 0
IsHome cells key = (cell cells key).1 ≡ true

module _ {X : Type 0} where
  -- the notes of the chain whose next entry brings this cell home
  abbrev pub notes_of : ℕ → List (Entry X) → List X
  notes_of key [] = []
  notes_of key (e ∷ es) =
      if e.key == key then cons_option e.note (notes_of e.next es) else notes_of key es

  -- the cell that the next entry of the chain is to bring home after these
  abbrev pub turn_of : ℕ → List (Entry X) → ℕ
  turn_of key [] = key
  turn_of key (e ∷ es) = if e.key == key then turn_of e.next es else turn_of key es

  -- no entry brought this cell home
  abbrev pub Lacks : ℕ → List (Entry X) → Type 0
  Lacks key log = All (λ (e : Entry X). e.key ≢ key) log

  -- each entry brought a cell of its own home
  abbrev pub HasEachOnce : List (Entry X) → Type 0
  HasEachOnce [] = Unit {0}
  HasEachOnce (e ∷ es) = Lacks e.key es × HasEachOnce es

  -- the word is at home, and each entry's cell is
  pub record IsKept (cells : List Cell) (log : List (Entry X)) : Type 0 where
    pub word : IsHome cells 0
    pub entries : All (λ (e : Entry X). IsHome cells e.key) log
    pub once : HasEachOnce log

  -- the last entry names its own cell, so no entry of the chain comes after it
  abbrev pub IsEnded : ℕ → List (Entry X) → Type 0
  IsEnded key log =
      (before : List (Entry X)) × (last : Entry X) × (log ≡ before ++ last ∷ [])
      × (last.key ≡ turn_of key log)

  -- the step added a cell, which its pen can make
  abbrev pub Makes : Step (Entry X) → View (Entry X) ℕ → ℕ → View (Entry X) ℕ → Type 0
  Makes step before found after = after.1.0.right ≡ may_make

  -- the step added its entry to a log that went on from what was seen, and in which no entry had
  -- brought the same cell home
  abbrev pub Adds : Step (Entry X) → View (Entry X) ℕ → ℕ → View (Entry X) ℕ → Type 0
  Adds step before found after =
      (log : List (Entry X)) × IsPrefix before.0 log × Lacks step.ask.key log
      × (after.0 ≡ log ++ step.ask ∷ [])
