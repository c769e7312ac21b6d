-- Lists of listeners: they stay in order, and what holds of each stays so.
use Rattle.std.proofs.Common.{◌≡◌, ℕ, ◌+◌, ◌-◌, ◌≤◌, Bool, true, false, cond, List, [], ◌∷◌, ◌++◌, length, min, max, take, drop, refl, sym, ap, ◌∙◌, subst, arith, length-append}
use Rattle.std.proofs.lemmas.Grind.{common_steps}
use Rattle.std.proofs.lemmas.List.{length-take, take-append-drop, drop_at, drop-append-le, drop_all}
use Rattle.std.specs.List.{AllByRecursion}
use Rattle.bcast_model.specs.Words.{Listeners, told_ids, untold_ids, is_in, without, tell, tell_all}
use Rattle.bcast_model.specs.Words.{join, consume, abandon, wait_again, IsDistinct, AreInOrder}
use Rattle.bcast_model.specs.Words.{IsTest}
use Rattle.bcast_model.proofs.Lists.{all_more, all_append, all_later, all_without, all_absent, absent, absent_without, some, without-append, in-append, distinct_left, distinct_without, length-without}
use Rattle.bcast_model.proofs.Cases.{test_is}

-- a list in order, and what holds of each listener, and of each that is not told
pub record AreFit {A : Type 0} (same : A → A → Bool) (P Q : A → Type 0) (l : Listeners A) : Type 0 where
  pub in_order : AreInOrder same l
  pub listed : AllByRecursion P l.ids
  pub untold : AllByRecursion Q (untold_ids l)

-- what holds of each but this one
abbrev pub Others : {A : Type 0} → (A → A → Bool) → A → (A → Type 0) → A → Type 0
Others same id P other = P other × (same id other ≡ false)

module _ {A : Type 0} (same : A → A → Bool) (test : IsTest same) where
  -- taking an id out of the told and the untold part
  pub consume-is : (id : A) (l : Listeners A) → AreInOrder same l →
      consume same id l ≡ record { ids = without same id (told_ids l) ++ without same id (untold_ids l); told = length (without same id (told_ids l)) }
  consume-is id l o =
      let split : take l.told l.ids ++ drop l.told l.ids ≡ l.ids = take-append-drop l.told l.ids in
      let ids : without same id l.ids ≡ without same id (take l.told l.ids) ++ without same id (drop l.told l.ids) =
      ap (without same id) (sym split) ∙ without-append same id (take l.told l.ids) (drop l.told l.ids) in
      let d : IsDistinct same (take l.told l.ids) = distinct_left same (take l.told l.ids) (drop l.told l.ids) (subst (IsDistinct same) (sym split) o.distinct) in
      let n : length (take l.told l.ids) ≡ l.told = omega (arith, length-take l.told l.ids, o.told) in
      let shorter = length-without same test id (take l.told l.ids) d in
      let t : length (without same id (take l.told l.ids)) ≡ cond (is_in same id (take l.told l.ids)) (l.told - 1) l.told = grind (arith, common_steps, n, shorter) in
      λ i. record { ids = ids i; told = sym t i }

  pub untold-consume : (id : A) (l : Listeners A) → AreInOrder same l → untold_ids (consume same id l) ≡ without same id (untold_ids l)
  untold-consume id l o = ap untold_ids (consume-is id l o) ∙ drop_at (without same id (told_ids l)) (without same id (untold_ids l)) (length (without same id (told_ids l))) refl

  pub in_order_consume : (id : A) (l : Listeners A) → AreInOrder same l → AreInOrder same (consume same id l)
  in_order_consume id l o = record {
    distinct = distinct_without same id l.ids o.distinct;
    told = subst (λ (u : Listeners A). u.told ≤ length u.ids) (sym (consume-is id l o)) (omega (arith, length-append (without same id (told_ids l)) (without same id (untold_ids l))));
  }

  pub flips : (id other : A) → same id other ≡ false → same other id ≡ false
  flips id other h = grind (arith, common_steps, test.no other id, test.yes id)

  distinct_join : (id : A) (ids : List A) → IsDistinct same ids → is_in same id ids ≡ false → IsDistinct same (ids ++ id ∷ [])
  distinct_join id [] d h = (tt, tt)
  distinct_join id (other ∷ ids) d h =
      let a = all_absent same id (other ∷ ids) h in
      (all_append (λ z. same other z ≡ false) ids (id ∷ []) d.0 (flips id other a.0, tt), distinct_join id ids d.1 (absent same id ids a.1))

  pub consume_listed : (id : A) (l : Listeners A) → AreInOrder same l → is_in same id l.ids ≡ true → length (consume same id l).ids + 1 ≡ length l.ids
  consume_listed id l o i = grind (arith, common_steps, some same id l.ids, length-without same test id l.ids o.distinct)

  -- an id that is told is listed, and is not among the untold
  pub told_listed : (id : A) (l : Listeners A) → is_in same id (told_ids l) ≡ true → is_in same id l.ids ≡ true
  told_listed id l h = grind (arith, common_steps, in-append same id (take l.told l.ids) (drop l.told l.ids), take-append-drop l.told l.ids)

  pub told_some : (id : A) (l : Listeners A) → is_in same id (told_ids l) ≡ true → 1 ≤ l.told
  told_some id l h = let s = some same id (take l.told l.ids) h in omega (arith, length-take l.told l.ids)

  -- ---- a listener that was dropped, and one that must wait, each by its cases
  abandon_is : (P : Listeners A → Type 0) (id : A) (l : Listeners A) → P (tell 1 (consume same id l)) → P (consume same id l) → P (abandon same id l)
  abandon_is P id l passed gone = test_is P (is_in same id (told_ids l)) (tell 1 (consume same id l)) (consume same id l) (λ _. passed) (λ _. gone)

  waits_is : (P : Listeners A → Type 0) (id : A) (l : Listeners A) → P l → P (join id (consume same id l)) → P (wait_again same id l)
  waits_is P id l stays joins = test_is P (is_in same id (untold_ids l)) l (join id (consume same id l)) (λ _. stays) (λ _. joins)

  -- ---- the lists stay in order
  pub in_order_tell : (n : ℕ) (l : Listeners A) → AreInOrder same l → AreInOrder same (tell n l)
  in_order_tell n l o = record { distinct = o.distinct; told = omega (arith, o.told) }

  pub in_order_tell_all : (l : Listeners A) → AreInOrder same l → AreInOrder same (tell_all l)
  in_order_tell_all l o = record { distinct = o.distinct; told = omega arith }

  pub in_order_join : (id : A) (l : Listeners A) → is_in same id l.ids ≡ false → AreInOrder same l → AreInOrder same (join id l)
  in_order_join id l h o = record { distinct = distinct_join id l.ids o.distinct h; told = omega (arith, o.told, length-append l.ids (id ∷ [])) }

  pub in_order_abandon : (id : A) (l : Listeners A) → AreInOrder same l → AreInOrder same (abandon same id l)
  in_order_abandon id l o = abandon_is (AreInOrder same) id l (in_order_tell 1 (consume same id l) (in_order_consume id l o)) (in_order_consume id l o)

  pub in_order_waits : (id : A) (l : Listeners A) → AreInOrder same l → AreInOrder same (wait_again same id l)
  in_order_waits id l o = waits_is (AreInOrder same) id l o (in_order_join id (consume same id l) (absent_without same id l.ids) (in_order_consume id l o))

  -- ---- what holds of each listener, and of each that is not told
  pub fit_weaker : {P Q R S : A → Type 0} (l : Listeners A) → AreFit same P Q l → ((id : A) → P id → R id) → ((id : A) → Q id → S id) → AreFit same R S l
  fit_weaker {P = P} {Q = Q} {R = R} {S = S} l f listed untold = record { in_order = f.in_order; listed = all_more P R l.ids listed f.listed; untold = all_more Q S (untold_ids l) untold f.untold }

  pub fit_told : {P Q : A → Type 0} (n : ℕ) (l : Listeners A) → AreFit same P Q l → AreFit same P Q (tell n l)
  fit_told {Q = Q} n l f = record { in_order = in_order_tell n l f.in_order; listed = f.listed; untold = all_later Q l.told (max l.told (min n (length l.ids))) l.ids (omega arith) f.untold }

  pub fit_all_told : {P Q R : A → Type 0} (l : Listeners A) → AreFit same P Q l → AreFit same P R (tell_all l)
  fit_all_told {R = R} l f = record { in_order = in_order_tell_all l f.in_order; listed = f.listed; untold = subst (AllByRecursion R) (sym (drop_all (length l.ids) l.ids (omega arith))) tt }

  -- a listener that is taken out, or dropped: what is left differs from it
  pub fit_consumed : {P Q : A → Type 0} (id : A) (l : Listeners A) → AreFit same P Q l → AreFit same (Others same id P) (Others same id Q) (consume same id l)
  fit_consumed {P = P} {Q = Q} id l f = record {
    in_order = in_order_consume id l f.in_order;
    listed = all_without same P id l.ids f.listed;
    untold = subst (AllByRecursion (Others same id Q)) (sym (untold-consume id l f.in_order)) (all_without same Q id (untold_ids l) f.untold);
  }

  pub fit_abandoned : {P Q : A → Type 0} (id : A) (l : Listeners A) → AreFit same P Q l → AreFit same (Others same id P) (Others same id Q) (abandon same id l)
  fit_abandoned {P = P} {Q = Q} id l f = let gone = fit_consumed id l f in abandon_is (AreFit same (Others same id P) (Others same id Q)) id l (fit_told 1 (consume same id l) gone) gone

  pub fit_others : {P Q : A → Type 0} (id : A) (l : Listeners A) → AreFit same (Others same id P) (Others same id Q) l → AreFit same P Q l
  fit_others id l f = fit_weaker l f (λ _ h. h.0) (λ _ h. h.0)

  -- one that waits is last, or keeps its position
  pub fit_waiting : {P Q : A → Type 0} (id : A) (l : Listeners A) → P id → Q id → AreFit same P Q l → AreFit same P Q (wait_again same id l)
  fit_waiting {P = P} {Q = Q} id l p q f =
      let left : Listeners A = consume same id l in
      let gone : AreFit same P Q left = fit_others id left (fit_consumed id l f) in
      waits_is (AreFit same P Q) id l f (record {
        in_order = in_order_join id left (absent_without same id l.ids) gone.in_order;
        listed = all_append P left.ids (id ∷ []) gone.listed (p, tt);
        untold = subst (AllByRecursion Q) (sym (drop-append-le left.told left.ids (id ∷ []) gone.in_order.told)) (all_append Q (untold_ids left) (id ∷ []) gone.untold (q, tt));
      })
