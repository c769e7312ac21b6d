-- The two steps keep the rule of the book, and what an entry does to the chains of its log.
use Rattle.std.proofs.Common.{◌≡◌, ◌≢◌, ℕ, zero, suc, ◌<◌, ◌==◌, Bool, true, false, Option, None, Some, List, [], ◌∷◌, ◌++◌, length, slice_set, refl, ap, sym, ◌∙◌, subst, arith, inl}
use Rattle.std.specs.List.{All, cons_option}
use Rattle.std.proofs.lemmas.List.{append-nil, length-set, get_or-set_same, get_or_append_left}
use Rattle.std.proofs.lemmas.List.Elements.{All-push, All-nil, All-head, All-tail}
use Rattle.std.proofs.lemmas.Bool.Decides.{nat_tests}
use mathlib.Core.List.{IsPrefix}
use prog.Atomic.{either}
use Rattle.logbook.specs.Pages.{Cell, cell, Nib, no_nib, may_write, step, gives, adds, Moves}
use Rattle.bcast_history.specs.declared.rule.Entry.{Entry}
use Rattle.bcast_history.specs.Book.{IsHome, notes_of, turn_of, IsKept, IsEnded, HasEachOnce, Lacks, Makes, Adds}

-- what is at home is among the cells, and stays at home
home_in : (cells : List Cell) (key : ℕ) → IsHome cells key → key < length cells
home_in [] key home = absurd (cc home)
home_in (c ∷ cs) zero home = omega arith
home_in (c ∷ cs) (suc key) home = let rest = home_in cs key home in omega arith

home_stays : (cells : List Cell) (set n key : ℕ) → IsHome cells key → IsHome (slice_set cells set (n, true)) key
home_stays [] set n key home = home
home_stays (c ∷ cs) zero n zero home = refl
home_stays (c ∷ cs) zero n (suc key) home = home
home_stays (c ∷ cs) (suc set) n zero home = home
home_stays (c ∷ cs) (suc set) n (suc key) home = home_stays cs set n key home

home_more : (cells : List Cell) (new : Cell) (key : ℕ) → IsHome cells key → IsHome (cells ++ new ∷ []) key
home_more cells new key home = ap (λ (c : Cell). c.1) (get_or_append_left cells (new ∷ []) (0, false) key (home_in cells key home)) ∙ home

module _ {X : Type 0} where
  abbrev Home : List Cell → Entry X → Type 0
  Home cells e = IsHome cells e.key

  abbrev Other : ℕ → Entry X → Type 0
  Other key e = e.key ≢ key

  abbrev shown : List (Entry X) → List (Entry X)
  shown log = []

  abbrev moved : List (Entry X) → List (Entry X) → ℕ → Type 0
  moved before after answer = Unit {0}

  -- the step that adds a cell
  pub makes_moves : (seen : List (Entry X)) (ask : Entry X)
      → Moves IsKept shown moved 0 (seen, (no_nib, None)) (λ n. either (n == 0) 0 n) (Makes (step 0 0 0 ask) (seen, (no_nib, None)))
  makes_moves seen ask cells log kept before away =
      let found = (cell cells 0).0 in
      let now = either (found == 0) 0 found in
      let set = slice_set cells 0 (now, true) in
      let stays : (key : ℕ) → IsHome cells key → IsHome (set ++ (0, false) ∷ []) key = λ key home. home_more set (0, false) key (home_stays cells 0 now key home) in
      let all : All (Home (set ++ (0, false) ∷ [])) log = λ k d less. stays _ (kept.entries k d less) in
      let still : IsKept (set ++ (0, false) ∷ []) (log ++ []) = record { word = stays 0 kept.word; entries = rw (append-nil log) all; once = rw (append-nil log) kept.once } in
      (home_in cells 0 kept.word, kept.word, (adds, [], None, tt, still, inl (refl, refl), refl))

  -- an entry with a cell that no entry has brought home
  once_more : (log : List (Entry X)) (e : Entry X) → HasEachOnce log → Lacks e.key log → HasEachOnce (log ++ e ∷ [])
  once_more [] e once lacks = (All-nil (Other e.key), tt)
  once_more (x ∷ xs) e once lacks =
      let other : e.key ≢ x.key = λ same. All-head (Other e.key) x xs lacks (sym same) in
      (All-push (Other x.key) xs e once.0 other, once_more xs e once.1 (All-tail (Other e.key) x xs lacks))

  -- the step that adds an entry: the cell that the pen brings home was away, so no entry had brought it home
  pub adds_moves : (seen : List (Entry X)) (pen : Nib) (ask : Entry X) → pen.right ≡ may_write → ask.key ≡ pen.key
      → Moves IsKept shown moved 0 (seen, (pen, None)) (λ n. either (n == 0) 0 n) (Adds (step 0 0 0 ask) (seen, (pen, None)))
  adds_moves seen pen ask right same cells log kept before away =
      let found = (cell cells 0).0 in
      let now = either (found == 0) 0 found in
      let set = slice_set cells 0 (now, true) in
      let all = slice_set set pen.key (pen.value, true) in
      let here = away right in
      let stays : (key : ℕ) → IsHome cells key → IsHome all key = λ key home. home_stays set pen.key pen.value key (home_stays cells 0 now key home) in
      let own : IsHome all ask.key = rw same (ap (λ (c : Cell). c.1) (get_or-set_same set pen.key (pen.value, true) (0, false) (omega (arith, here.0, length-set cells 0 (now, true))))) in
      let each = All-push (Home all) log ask (λ k d less. stays _ (kept.entries k d less)) own in
      let lacks : Lacks ask.key log = λ k d less at. let home = subst (IsHome cells) (at ∙ same) (kept.entries k d less) in absurd (cc (home, here.1)) in
      let still : IsKept all (log ++ ask ∷ []) = record { word = stays 0 kept.word; entries = each; once = once_more log ask kept.once lacks } in
      (home_in cells 0 kept.word, kept.word, (gives, ask ∷ [], None, right, still, inl (refl, refl), (log, before, lacks, refl)))

  -- a chain goes on in the entries that come after a log
  abbrev GoesOn : ℕ → List (Entry X) → List (Entry X) → Type 0
  GoesOn key log more = (notes_of key (log ++ more) ≡ notes_of key log ++ notes_of (turn_of key log) more) × (turn_of key (log ++ more) ≡ turn_of (turn_of key log) more)

  cons_more : (note : Option X) (xs ys : List X) → cons_option note (xs ++ ys) ≡ cons_option note xs ++ ys
  cons_more None xs ys = refl
  cons_more (Some n) xs ys = refl

  goes_at : (key : ℕ) (e : Entry X) (es more : List (Entry X)) → GoesOn e.next es more → GoesOn key es more → (b : Bool) → (e.key == key) ≡ b → GoesOn key (e ∷ es) more
  goes_at key e es more there here true is = rw is (ap (λ ns. cons_option e.note ns) there.0 ∙ cons_more e.note (notes_of e.next es) (notes_of (turn_of e.next es) more), there.1)
  goes_at key e es more there here false is = rw is here

  goes_on : (key : ℕ) (log more : List (Entry X)) → GoesOn key log more
  goes_on key [] more = (refl, refl)
  goes_on key (e ∷ es) more = goes_at key e es more (goes_on e.next es more) (goes_on key es more) (e.key == key) refl

  -- so of two logs of which one begins the other the notes do, too
  pub notes_begin : (first : ℕ) (log longer : List (Entry X)) → IsPrefix log longer → IsPrefix (notes_of first log) (notes_of first longer)
  notes_begin first log longer p = (notes_of (turn_of first log) p.0, sym (goes_on first log p.0).0 ∙ ap (λ es. notes_of first es) p.1)

  -- while no entry brings home the cell whose turn it is, nothing comes to the chain
  lacks_chain : (key : ℕ) (log : List (Entry X)) → Lacks key log → (notes_of key log ≡ []) × (turn_of key log ≡ key)
  lacks_chain key [] lacks = (refl, refl)
  lacks_chain key (e ∷ es) lacks =
      let other : e.key ≢ key = All-head (Other key) e es lacks in
      let is : (e.key == key) ≡ false = grind (arith, nat_tests) in
      rw is (lacks_chain key es (All-tail (Other key) e es lacks))

  lacks_after : (key : ℕ) (log more : List (Entry X)) → Lacks key (log ++ more) → Lacks key more
  lacks_after key [] more lacks = lacks
  lacks_after key (e ∷ es) more lacks = lacks_after key es more (All-tail (Other key) e (es ++ more) lacks)

  pub as_it_was : (first : ℕ) (log longer : List (Entry X)) → IsPrefix log longer → Lacks (turn_of first log) longer
      → (notes_of first longer ≡ notes_of first log) × (turn_of first longer ≡ turn_of first log)
  as_it_was first log longer p lacks =
      let on = goes_on first log p.0 in
      let none = lacks_chain (turn_of first log) p.0 (lacks_after (turn_of first log) log p.0 (subst (Lacks (turn_of first log)) (sym p.1) lacks)) in
      rw (← p.1) (on.0 ∙ (ap (λ ns. notes_of first log ++ ns) none.0 ∙ append-nil (notes_of first log)), on.1 ∙ none.1)

  -- an entry that brings it home adds its note, and names the next one
  pub one_more : (first : ℕ) (log longer after : List (Entry X)) (e : Entry X) → IsPrefix log longer → Lacks e.key longer → e.key ≡ turn_of first log → after ≡ longer ++ e ∷ []
      → (notes_of first after ≡ notes_of first log ++ cons_option e.note []) × (turn_of first after ≡ e.next)
  one_more first log longer after e p lacks turn is =
      let was = as_it_was first log longer p (subst (λ key. Lacks key longer) turn lacks) in
      let here : (e.key == turn_of first longer) ≡ true = grind (arith, nat_tests) in
      let on = goes_on first longer (e ∷ []) in
      rw is (on.0 ∙ rw (here, was.0) refl, on.1 ∙ rw here refl)

  -- one that names its own cell, and has no note, ends the chain
  pub ends : (first : ℕ) (log longer after : List (Entry X)) (e : Entry X) → IsPrefix log longer → Lacks e.key longer → e.key ≡ turn_of first log → e.note ≡ None → e.next ≡ e.key
      → after ≡ longer ++ e ∷ [] → (notes_of first after ≡ notes_of first log) × IsEnded first after
  ends first log longer after e p lacks turn none own is =
      let more = one_more first log longer after e p lacks turn is in (
        more.0 ∙ ap (λ note. notes_of first log ++ cons_option note []) none ∙ append-nil (notes_of first log),
        (longer, e, is, sym (more.1 ∙ own)),
      )

  last_once : (before : List (Entry X)) (e : Entry X) (more : List (Entry X)) → HasEachOnce ((before ++ e ∷ []) ++ more) → Lacks e.key more
  last_once [] e more once = once.0
  last_once (b ∷ bs) e more once = last_once bs e more once.1

  -- so no entry of the chain comes after it
  pub as_it_ended : (first : ℕ) (log longer : List (Entry X)) → IsEnded first log → IsPrefix log longer → HasEachOnce longer → notes_of first longer ≡ notes_of first log
  as_it_ended first log longer ended p once =
      let all : HasEachOnce ((ended.0 ++ ended.1 ∷ []) ++ p.0) = subst (λ es. HasEachOnce (es ++ p.0)) ended.2 (subst HasEachOnce (sym p.1) once) in
      let lacks = subst (λ key. Lacks key p.0) ended.3 (last_once ended.0 ended.1 p.0 all) in
      let none = lacks_chain (turn_of first log) p.0 lacks in
      rw (← p.1) ((goes_on first log p.0).0 ∙ (ap (λ ns. notes_of first log ++ ns) none.0 ∙ append-nil (notes_of first log)))
