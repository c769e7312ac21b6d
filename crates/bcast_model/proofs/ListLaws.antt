-- Each call on a list of listeners keeps it in order, keeps positions, and counts as it should.
use Rattle.std.proofs.Common.{◌≡◌, ℕ, ◌+◌, ◌-◌, Bool, false, cond, [], ◌∷◌, ◌++◌, length, refl, ap, ◌∙◌, arith}
use Rattle.std.proofs.lemmas.Grind.{common_steps}
use Rattle.std.proofs.lemmas.List.{take_at, take-append-le, drop-append-le}
use Rattle.bcast_model.specs.Words.{Listeners, told_ids, untold_ids, is_in, without, join, consume}
use Rattle.bcast_model.specs.Words.{AreInOrder, IsTest, StaysInOrder, KeepsPositions, KeepsCounts}
use Rattle.bcast_model.proofs.Lists.{without_absent}
use Rattle.bcast_model.proofs.Listeners.{consume-is, untold-consume, in_order_tell, in_order_tell_all, in_order_join, in_order_consume, in_order_abandon, in_order_waits, told_listed, told_some, consume_listed}

module _ {A : Type 0} (same : A → A → Bool) (test : IsTest same) where
  pub stays_in_order : (id : A) (n : ℕ) (l : Listeners A) → AreInOrder same l → StaysInOrder same id n l
  stays_in_order id n l o = record {
    tell = in_order_tell same test n l o;
    tell_all = in_order_tell_all same test l o;
    join = λ h. in_order_join same test id l h o;
    consume = in_order_consume same test id l o;
    abandon = in_order_abandon same test id l o;
    wait_again = in_order_waits same test id l o;
  }

  told-consume : (id : A) (l : Listeners A) → AreInOrder same l → told_ids (consume same id l) ≡ without same id (told_ids l)
  told-consume id l o = ap told_ids (consume-is same test id l o) ∙ take_at (without same id (told_ids l)) (without same id (untold_ids l)) (length (without same id (told_ids l))) refl

  pub keeps_positions : (id : A) (l : Listeners A) → AreInOrder same l → KeepsPositions same id l
  keeps_positions id l o =
      let c = in_order_consume same test id l o in
      record {
        join_told = take-append-le l.told l.ids (id ∷ []) o.told;
        join_untold = drop-append-le l.told l.ids (id ∷ []) o.told;
        consume_told = told-consume id l o;
        consume_untold = untold-consume same test id l o;
        wait_kept = λ h. ap (λ b. cond b l (join id (consume same id l))) h;
        wait_told = λ h. ap (λ b. told_ids (cond b l (join id (consume same id l)))) h ∙ take-append-le (consume same id l).told (consume same id l).ids (id ∷ []) c.told ∙ told-consume id l o;
        wait_untold = λ h. ap (λ b. untold_ids (cond b l (join id (consume same id l)))) h ∙ drop-append-le (consume same id l).told (consume same id l).ids (id ∷ []) c.told ∙ ap (λ ids. ids ++ id ∷ []) (untold-consume same test id l o ∙ without_absent same id (untold_ids l) h);
      }

  absent_told : (id : A) (l : Listeners A) → is_in same id l.ids ≡ false → is_in same id (told_ids l) ≡ false
  absent_told id l h = grind (arith, common_steps, told_listed same test id l)

  pub keeps_counts : (id : A) (l : Listeners A) → AreInOrder same l → KeepsCounts same id l
  keeps_counts id l o = record {
    told = λ h. (let t = told_some same test id l h in ap (λ b. cond b (l.told - 1) l.told + 1) h ∙ omega arith);
    untold = λ h. ap (λ b. cond b (l.told - 1) l.told) h;
    listed = λ h. consume_listed same test id l o h;
    absent = λ h. (let t = absent_told id l h in let n : cond (is_in same id (told_ids l)) (l.told - 1) l.told ≡ l.told = ap (λ b. cond b (l.told - 1) l.told) t in let m = without_absent same id l.ids h in λ i. record { ids = m i; told = n i });
    passed = λ h. (let m = consume_listed same test id l o (told_listed same test id l h) in rw h (omega (arith, m)));
    kept = λ h. rw h refl;
  }
