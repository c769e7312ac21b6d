-- An id in the parts of a list, and the changes of the listeners.
use Rattle.std.proofs.Common.{◌≡◌, ℕ, Bool, true, false, List, take, drop, Option, None, not, unwrap_or, option_map, sym, subst, arith, take-append-drop}
use Rattle.std.proofs.lemmas.Grind.{common_steps}
use Rattle.bcast_model.specs.Words.{Listeners, untold_ids, is_in, without, consume, IsDistinct, AreInOrder, IsTest}
use Rattle.bcast_model.proofs.Lists.{all_left, all_dropped, all_absent, absent, absent_without, without_absent, distinct_apart}
use Rattle.bcast_waiting.specs.Event.{is_told}
use Rattle.bcast_waiting.proofs.InSlots.{listed_push}

module _ {I : Type 0} (same : I → I → Bool) where
  -- ---- an id that is not listed
  pub absent_take : (id : I) (n : ℕ) (ids : List I) → is_in same id ids ≡ false → is_in same id (take n ids) ≡ false
  absent_take id n ids h = grind (arith, common_steps, absent, all_left, take-append-drop, all_absent)

  pub absent_drop : (id : I) (n : ℕ) (ids : List I) → is_in same id ids ≡ false → is_in same id (drop n ids) ≡ false
  absent_drop id n ids h = absent same id (drop n ids) (all_dropped (λ other. same id other ≡ false) n ids (all_absent same id ids h))

  pub is_told_absent : (id : I) (l : Listeners I) → is_in same id l.ids ≡ false → None ≡ is_told same id l
  is_told_absent id l h = grind (arith, common_steps, absent_drop, absent_take)

  -- it is not taken out
  pub consume_absent : (id : I) (l : Listeners I) → is_in same id l.ids ≡ false → consume same id l ≡ l
  consume_absent id l h = grind (arith, common_steps, without_absent, absent_take)

  -- ---- an id that is listed
  module _ (test : IsTest same) where
    -- it is in one part of a distinct list only
    pub apart_parts : (id : I) (n : ℕ) (ids : List I) → IsDistinct same ids → is_in same id (take n ids) ≡ true → is_in same id (drop n ids) ≡ false
    apart_parts id n ids d h = distinct_apart same test id (take n ids) (drop n ids) (subst (IsDistinct same) (sym (take-append-drop n ids)) d) h

    -- which ones are listed and not told
    pub untold_is : (id : I) (l : Listeners I) → AreInOrder same l → (r : Option Bool) → r ≡ is_told same id l → unwrap_or (option_map not r) false ≡ is_in same id (untold_ids l)
    untold_is id l order r is = grind (arith, common_steps, apart_parts)

-- what `Event` is proved by
pub ruleset listing = (common_steps, absent_without, is_told_absent, consume_absent, listed_push)
