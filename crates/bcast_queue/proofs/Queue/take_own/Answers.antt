-- One message more is taken out.
use Rattle.std.proofs.Common.{◌≡◌, ℕ, ◌+◌, ◌<◌, ◌++◌, List, [], ◌∷◌, Some, drop, take, get_or, slice_get, length, sym, ap, ◌∙◌, append_assoc, arith}
use Rattle.std.proofs.lemmas.Grind.{common_steps}
use Rattle.std.proofs.lemmas.List.{drop-drop, get_or-drop, take_more}
use Rattle.std.proofs.lemmas.Option.{get_or_from_slice_get}
use Rattle.bcast_queue.specs.Queue.{Queued, without}
use Rattle.bcast_queue.proofs.Queues.{same_queue}
use Rattle.bcast_queue.proofs.Queue.take_own.Goals as goal

module _ {X : Type 0} where
  first_left : (xs : List X) (i : ℕ) (d : X) → get_or (drop i xs) 0 d ≡ get_or xs i d
  first_left xs i d = let at : i + 0 ≡ i = omega arith in get_or-drop i xs 0 d ∙ ap (λ k. get_or xs k d) at

  rest_more : (i : ℕ) (q now new : Queued X) → now ≡ without i q → new ≡ without 1 now → new ≡ without (i + 1) q
  rest_more i q now new is goes = goes ∙ ap (without 1) is ∙ same_queue _ _ _ _ _ _ _ _ (omega arith) (drop-drop 1 i q.messages) (drop-drop 1 i q.owed) (λ _. q.room)

  taken_more : (i : ℕ) (xs old now new : List X) (x : X) → now ≡ old ++ take i xs → i < length xs → Some x ≡ slice_get (drop i xs) 0 → new ≡ now ++ x ∷ [] → new ≡ old ++ take (i + 1) xs
  taken_more i xs old now new x is within at put =
      let first : get_or xs i x ≡ x = sym (first_left xs i x) ∙ get_or_from_slice_get (drop i xs) 0 x x (sym at) in
      put ∙ ap (λ ys. ys ++ x ∷ []) is ∙ append_assoc old (take i xs) (x ∷ [])
      ∙ ap (λ ys. old ++ ys) (sym (take_more xs i x within ∙ ap (λ y. take i xs ++ y ∷ []) first))

pub loop-taken-preserved : goal.loop-taken-preserved
loop-taken-preserved g c =
    let q = c.args.self.now in
    let i = c.loop-taken.taken in
    let is = c.loop-taken.invariant in
    let put = c.push_reserved.ensures in
    let same : c.is_first_shared.new.self ≡ without i q = c.is_first_shared.ensures.unchanged ∙ is.rest in
    let within : i < length q.messages = omega (arith, c.loop-taken-test.true, c.requires.within) in
    record {
      rest = rest_more i q c.is_first_shared.new.self c.pop.new.self same c.in-Some.ensures.some;
      taken = taken_more i q.messages c.args.msgs.now.items c.loop-taken.msgs.items c.push_reserved.new.self.items c.in-Some.msg is.taken within (c.in-Some.ensures.value ∙ ap (λ p. slice_get p.messages 0) same) put.items;
      own = λ _. grind (arith, common_steps, first_left, same, c.invariant_holds.ensures.owed i 0 (omega (arith, within, c.invariant_holds.ensures.lengths)));
      len = omega (arith, put.len, is.len);
      capacity = put.capacity ∙ is.capacity;
      steps = omega (arith, is.steps, c.is_first_shared.ensures.steps, c.pop.ensures.steps);
    }
