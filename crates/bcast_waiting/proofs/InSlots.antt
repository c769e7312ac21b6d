-- The ids that are listed in slots, by the position of a slot.
use Rattle.std.proofs.Common.{◌≡◌, ℕ, zero, suc, ◌+◌, ◌-◌, ◌<◌, ◌≤◌, Bool, true, false, cond, ◌||◌, List, [], ◌∷◌, ◌++◌, length, map, take, drop, get_or, set, Option, Some, None, is_some, refl, sym, ap, ◌∙◌, subst, arith, length-append, get_or-take, get_or-drop, true≢false}
use Rattle.std.proofs.lemmas.Grind.{common_steps}
use Rattle.std.specs.List.{filter, filter_map}
use Rattle.std.proofs.lemmas.Bool.{or_left, or_right}
use Rattle.std.proofs.lemmas.List.{take_more, take_all, take-map, take-append-le, take-set-le, length-take-le, map-set, get_or-map, set-get_or}
use Rattle.std.proofs.lemmas.List.Elements.{filter_map-append}
use Rattle.bcast_model.specs.Words.{is_in, without, IsDistinct, IsTest}
use Rattle.bcast_model.proofs.Lists.{absent, all_in, without_absent}
use Rattle.bcast_model.proofs.Listeners.{flips}
use Rattle.bcast_waiting.specs.Words.{listed, front, has, slot_id}
use Rattle.bcast_waiting.specs.declared.slots.Listener.{Listener}

module _ {I : Type 0} where
  -- ---- how many are listed before a position
  pub front-more : (ids : List (Option I)) (position : ℕ) → position < length ids → front ids (position + 1) ≡ front ids position + cond (is_some (get_or ids position None)) 1 0
  front-more ids position within = grind (arith, common_steps, take_more, filter_map-append, length-append)

  pub front_all : (ids : List (Option I)) (position : ℕ) → length ids ≤ position → front ids position ≡ length (listed ids)
  front_all ids position past = ap (λ xs. length (listed xs)) (take_all position ids past)

  pub front_mono : (ids : List (Option I)) (i j : ℕ) → i ≤ j → front ids i ≤ front ids j
  front_mono ids zero j h = omega arith
  front_mono [] (suc i) j h = omega arith
  front_mono (slot ∷ ids) (suc i) zero h = absurd (omega (arith, h))
  front_mono (None ∷ ids) (suc i) (suc j) h = front_mono ids i j (omega (arith, h))
  front_mono (Some id ∷ ids) (suc i) (suc j) h = let rest = front_mono ids i j (omega (arith, h)) in omega (arith, rest)

  -- the ids that are listed before a position, and the others
  pub take_front : (ids : List (Option I)) (n : ℕ) → take (front ids n) (listed ids) ≡ listed (take n ids)
  take_front ids zero = refl
  take_front [] (suc n) = refl
  take_front (None ∷ ids) (suc n) = take_front ids n
  take_front (Some id ∷ ids) (suc n) = ap (λ rest. id ∷ rest) (take_front ids n)

  pub drop_front : (ids : List (Option I)) (n : ℕ) → drop (front ids n) (listed ids) ≡ listed (drop n ids)
  drop_front ids zero = refl
  drop_front [] (suc n) = refl
  drop_front (None ∷ ids) (suc n) = drop_front ids n
  drop_front (Some id ∷ ids) (suc n) = drop_front ids n

  pub front_push : (ids : List (Option I)) (id : I) (position : ℕ) → position ≤ length ids → front (ids ++ Some id ∷ []) position ≡ front ids position
  front_push ids id position h = ap (λ xs. length (listed xs)) (take-append-le position ids (Some id ∷ []) h)

  pub listed_push : (ids : List (Option I)) (id : I) → listed (ids ++ Some id ∷ []) ≡ listed ids ++ id ∷ []
  listed_push ids id = filter_map-append (λ id. id) ids (Some id ∷ [])

  -- ---- slots of which none is empty
  pub listed_full : (ids : List I) → listed (map Some ids) ≡ ids
  listed_full [] = refl
  listed_full (id ∷ ids) = ap (λ rest. id ∷ rest) (listed_full ids)

  pub front_full : (ids : List I) (position : ℕ) → position ≤ length ids → front (map Some ids) position ≡ position
  front_full ids position h = grind (arith, common_steps, take-map, listed_full, length-take-le)

  -- ---- a slot that was emptied
  pub front_left : (ids : List (Option I)) (i j : ℕ) → is_some (get_or ids i None) ≡ true → i < j → suc (front (set ids i None) j) ≡ front ids j
  front_left ids i zero there h = absurd (omega (arith, h))
  front_left [] i (suc j) there h = absurd (true≢false (sym there))
  front_left (None ∷ ids) zero (suc j) there h = absurd (true≢false (sym there))
  front_left (Some id ∷ ids) zero (suc j) there h = refl
  front_left (None ∷ ids) (suc i) (suc j) there h = front_left ids i j there (omega (arith, h))
  front_left (Some id ∷ ids) (suc i) (suc j) there h = ap suc (front_left ids i j there (omega (arith, h)))

  pub front_kept : (ids : List (Option I)) (i j : ℕ) → j ≤ i → front (set ids i None) j ≡ front ids j
  front_kept ids i j h = ap (λ xs. length (listed xs)) (take-set-le j ids i None h)

  -- ---- what a contract sees of the slots with their notices
  pub ids-compacted : {N : Type 0} (slots : List (Option (Listener I N))) → map slot_id (filter is_some slots) ≡ map Some (listed (map slot_id slots))
  ids-compacted [] = refl
  ids-compacted (None ∷ slots) = ids-compacted slots
  ids-compacted (Some x ∷ slots) = ap (λ rest. Some x.id ∷ rest) (ids-compacted slots)

  pub listed-ids : {N : Type 0} (slots : List (Option (Listener I N))) → filter_map slot_id slots ≡ listed (map slot_id slots)
  listed-ids [] = refl
  listed-ids (None ∷ slots) = listed-ids slots
  listed-ids (Some x ∷ slots) = ap (λ rest. x.id ∷ rest) (listed-ids slots)

  -- a slot with the same id
  pub ids-renewed : {N : Type 0} (slots : List (Option (Listener I N))) (i : ℕ) (old new : Option (Listener I N)) → i < length slots → old ≡ get_or slots i old → slot_id new ≡ slot_id old → map slot_id (set slots i new) ≡ map slot_id slots
  ids-renewed slots i old new within is id =
      map-set slot_id slots i new
      ∙ ap (set (map slot_id slots) i) (id ∙ ap slot_id is ∙ sym (get_or-map slot_id slots i old (slot_id old) within))
      ∙ set-get_or (map slot_id slots) i (slot_id old)

  module _ (same : I → I → Bool) (id : I) where
    -- ---- a slot that has an id
    pub is_some-has : (slot : Option I) → has same id slot ≡ true → is_some slot ≡ true
    is_some-has None h = absurd (true≢false (sym h))
    is_some-has (Some other) h = refl

    -- no slot has it
    pub absent_slots : (ids : List (Option I)) → ((k : ℕ) → k < length ids → has same id (get_or ids k None) ≡ false) → is_in same id (listed ids) ≡ false
    absent_slots [] h = refl
    absent_slots (None ∷ ids) h = absent_slots ids (λ k l. h (suc k) (omega (arith, l)))
    absent_slots (Some other ∷ ids) h =
        ap (λ b. b || is_in same id (listed ids)) (h 0 (omega arith))
        ∙ absent_slots ids (λ k l. h (suc k) (omega (arith, l)))

    -- ---- the id in a slot
    pub is_there : (ids : List (Option I)) (i : ℕ) → has same id (get_or ids i None) ≡ true → is_in same id (listed ids) ≡ true
    is_there [] i h = absurd (true≢false (sym h))
    is_there (None ∷ ids) zero h = absurd (true≢false (sym h))
    is_there (Some x ∷ ids) zero h = or_left (same id x) (is_in same id (listed ids)) h
    is_there (None ∷ ids) (suc i) h = is_there ids i h
    is_there (Some x ∷ ids) (suc i) h = or_right (same id x) (is_in same id (listed ids)) (is_there ids i h)

    pub in_before : (ids : List (Option I)) (i n : ℕ) → has same id (get_or ids i None) ≡ true → i < n → is_in same id (listed (take n ids)) ≡ true
    in_before ids i n h before = is_there (take n ids) i (ap (has same id) (get_or-take n ids i None before) ∙ h)

    pub in_behind : (ids : List (Option I)) (i n : ℕ) → has same id (get_or ids i None) ≡ true → n ≤ i → is_in same id (listed (drop n ids)) ≡ true
    in_behind ids i n h behind =
        let here : n + (i - n) ≡ i = omega (arith, behind) in
        is_there (drop n ids) (i - n) (ap (has same id) (get_or-drop n ids (i - n) None ∙ ap (λ k. get_or ids k None) here) ∙ h)

    -- the others, once its slot was emptied
    pub listed_left : IsTest same → (ids : List (Option I)) (i : ℕ) → IsDistinct same (listed ids) → has same id (get_or ids i None) ≡ true → listed (set ids i None) ≡ without same id (listed ids)
    listed_left test [] i d h = absurd (true≢false (sym h))
    listed_left test (None ∷ ids) zero d h = absurd (true≢false (sym h))
    listed_left test (Some x ∷ ids) zero d h =
        let here : same id x ≡ true = h in
        let out : is_in same id (listed ids) ≡ false = subst (λ z. is_in same z (listed ids) ≡ false) (sym (test.no id x h)) (absent same x (listed ids) d.0) in
        rw here (sym (without_absent same id (listed ids) out))
    listed_left test (None ∷ ids) (suc i) d h = listed_left test ids i d h
    listed_left test (Some x ∷ ids) (suc i) d h =
        let apart = flips same test x id (all_in same test (λ other. same x other ≡ false) id (listed ids) d.0 (is_there ids i h)) in
        rw apart (ap (λ rest. x ∷ rest) (listed_left test ids i d.1 h))

-- what `Slots` is proved by
pub ruleset slots = (common_steps, front-more, listed-ids, map-set)
