-- The counts of an event, once a listener joins or is taken out.
use Rattle.std.proofs.Common.{◌≡◌, ℕ, ◌+◌, ◌-◌, ◌<◌, ◌≤◌, ◌==◌, Bool, true, false, cond, ltb, [], ◌∷◌, ◌++◌, length, take, drop, get_or, set, Some, None, refl, sym, ap, ◌∙◌, subst, arith, ltb-true, ltb-false, length-set, length-append}
use Rattle.std.proofs.lemmas.Grind.{common_steps}
use Rattle.std.specs.List.{AllByRecursion}
use Rattle.bcast_model.specs.Words.{Listeners, is_in, consume, untold_ids, AreInOrder, IsTest}
use Rattle.bcast_model.proofs.Lists.{all_more, all_append, all_absent, all_without}
use Rattle.bcast_model.proofs.Listeners.{in_order_join, in_order_consume, consume_listed, told_some}
use Rattle.bcast_waiting.specs.Words.{is_told, Slots, listed, front, has, listeners_of, IsKept}
use Rattle.bcast_waiting.proofs.Few.{at_most}
use Rattle.bcast_waiting.proofs.Listeners.{apart_parts}
use Rattle.bcast_waiting.proofs.InSlots.{take_front, drop_front, front_push, listed_push, listed_left, front_left, front_kept, is_some-has, is_there, in_before, in_behind}

module _ {I : Type 0} {same : I → I → Bool} {number : I → ℕ} {s : Slots I} {count told told_end : ℕ} (kept : IsKept same number s count told told_end) where
  -- other slots with the same listeners
  pub IsKept-tidied : (t : Slots I) (end : ℕ) → listed t.ids ≡ listed s.ids → told ≡ front t.ids end → end ≤ length t.ids → s.room ≤ t.room → IsKept same number t count told end
  IsKept-tidied t end ids told_front within room = grind (arith, common_steps, all_more)

  module _ (test : IsTest same) (id : I) where
    -- ---- a listener joins
    pub IsKept-join : is_in same id (listed s.ids) ≡ false → number id < s.room → IsKept same number (record s { ids = s.ids ++ Some id ∷ [] }) (count + 1) told told_end
    IsKept-join absent room =
        let ids = listed_push s.ids id in
        let more = ap length ids ∙ length-append (listed s.ids) (id ∷ []) in
        record {
          in_order = subst (λ xs. AreInOrder same (record { ids = xs; told = told })) (sym ids) (in_order_join same test id (listeners_of s.ids told) absent kept.in_order);
          counted = omega (arith, kept.counted, more);
          told_front = kept.told_front ∙ sym (front_push s.ids id told_end kept.within);
          within = omega (arith, kept.within, length-append s.ids (Some id ∷ []));
          in_room = subst (AllByRecursion (λ id. number id < s.room)) (sym ids) (all_append (λ id. number id < s.room) (listed s.ids) (id ∷ []) kept.in_room (room, tt));
        }

    -- ---- a listener is taken out
    module _ (i : ℕ) (there : has same id (get_or s.ids i None) ≡ true) where
      -- it is told if its slot is in the front part, and else it isn't
      in_told : i < told_end → is_in same id (take told (listed s.ids)) ≡ true
      in_told h = ap (is_in same id) (ap (λ n. take n (listed s.ids)) kept.told_front ∙ take_front s.ids told_end) ∙ in_before same id s.ids i told_end there h

      in_rest : told_end ≤ i → is_in same id (drop told (listed s.ids)) ≡ true
      in_rest h = ap (is_in same id) (ap (λ n. drop n (listed s.ids)) kept.told_front ∙ drop_front s.ids told_end) ∙ in_behind same id s.ids i told_end there h

      told_test : is_in same id (take told (listed s.ids)) ≡ ltb i told_end
      told_test = grind (arith, common_steps, in_told, in_rest, apart_parts, ltb-true, ltb-false)

      pub some_told : i < told_end → 1 ≤ told
      some_told h = told_some same test id (listeners_of s.ids told) (in_told h)

      pub is_told_at : Some (ltb i told_end) ≡ is_told same id (listeners_of s.ids told)
      is_told_at = grind (arith, common_steps, told_test, in_rest, ltb-false)

      pub untold_after : told_end ≤ i → true ≡ is_in same id (untold_ids (listeners_of s.ids told))
      untold_after h = sym (in_rest h)

      pub untold_before : i < told_end → false ≡ is_in same id (untold_ids (listeners_of s.ids told))
      untold_before h = sym (apart_parts same test id told (listed s.ids) kept.in_order.distinct (in_told h))

      module _ (rest : ℕ) (is : rest ≡ cond (ltb i told_end) (told - 1) told) where
        pub taken : listeners_of (set s.ids i None) rest ≡ consume same id (listeners_of s.ids told)
        taken =
            let ids = listed_left same id test s.ids i kept.in_order.distinct there in
            let less = is ∙ ap (λ b. cond b (told - 1) told) (sym told_test) in
            λ j. record { ids = ids j; told = less j }

        told_rest : (b : Bool) → ltb i told_end ≡ b → rest ≡ cond b (told - 1) told → rest ≡ front (set s.ids i None) told_end
        told_rest true e r = let fewer = front_left s.ids i told_end (is_some-has same id (get_or s.ids i None) there) (ltb-true i told_end e) in omega (arith, r, fewer, kept.told_front)
        told_rest false e r = r ∙ kept.told_front ∙ sym (front_kept s.ids i told_end (ltb-false i told_end e))

        pub IsKept-left : IsKept same number (record s { ids = set s.ids i None }) (count - 1) rest told_end
        IsKept-left =
            let left = ap (λ (l : Listeners I). length l.ids) taken in
            let one = consume_listed same test id (listeners_of s.ids told) kept.in_order (is_there same id s.ids i there) in
            record {
              in_order = subst (AreInOrder same) (sym taken) (in_order_consume same test id (listeners_of s.ids told) kept.in_order);
              counted = omega (arith, kept.counted, left, one);
              told_front = told_rest (ltb i told_end) refl is;
              within = omega (arith, kept.within, length-set s.ids i None);
              in_room = subst (λ (l : Listeners I). AllByRecursion (λ id. number id < s.room) l.ids) (sym taken) (all_more (λ other. (number other < s.room) × (same id other ≡ false)) (λ id. number id < s.room) _ (λ _ both. both.0) (all_without same (λ id. number id < s.room) id (listed s.ids) kept.in_room));
            }

  -- ---- how many there are
  module _ (own : (x y : I) → same x y ≡ (number x == number y)) where
    pub fits : length (listed s.ids) ≤ s.room
    fits = at_most same number own s.room (listed s.ids) kept.in_order.distinct kept.in_room

    pub finds_room : (id : I) → is_in same id (listed s.ids) ≡ false → number id < s.room → length (listed s.ids) < s.room
    finds_room id absent room =
        let n = at_most same number own s.room (id ∷ listed s.ids) (all_absent same id (listed s.ids) absent, kept.in_order.distinct) (room, kept.in_room) in
        omega (arith, n)
