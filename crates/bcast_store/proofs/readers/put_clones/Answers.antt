-- One clone more is put.
use Rattle.std.proofs.Common.{◌≡◌, ℕ, ◌+◌, List, [], ◌∷◌, ◌++◌, Some, take, drop, slice_get, ap, sym, ◌∙◌, append_assoc, arith, length-drop}
use Rattle.std.specs.List.{AppendsClones}
use Rattle.std.specs.Option.{option_copied}
use Rattle.std.proofs.lemmas.List.{get_or-drop}
use Rattle.std.proofs.lemmas.List.Elements.{all_zip_more}
use Rattle.std.proofs.lemmas.Option.{slice_get_within, get_or_from_slice_get}
use Rattle.bcast_model.proofs.DeliveryLists.{past_end}
use Rattle.bcast_store.proofs.readers.put_clones.Goals as goal

one_more : {X : Type 0} (is_clone : X → X → Type 0) (old now new msgs : List X) (index i : ℕ) (msg given : X) → AppendsClones is_clone old now (take i (drop index msgs))
    → slice_get msgs (index + i) ≡ Some msg → is_clone msg given → new ≡ now ++ given ∷ [] → AppendsClones is_clone old new (take (i + 1) (drop index msgs))
one_more is_clone old now new msgs index i msg given put at copied pushed =
    let rest = drop index msgs in
    let within = slice_get_within msgs (index + i) msg at in (
      put.0 ++ given ∷ [],
      pushed ∙ ap (λ l. l ++ given ∷ []) put.1 ∙ append_assoc old put.0 (given ∷ []),
      all_zip_more is_clone rest put.0 i msg given (omega (arith, length-drop index msgs, within))
          (sym (get_or-drop index msgs i msg ∙ get_or_from_slice_get msgs (index + i) msg msg at)) put.2 copied,
    )

pub unreachable-requires : goal.unreachable-requires
unreachable-requires g c =
    let end = past_end c.args.queue.now.messages (c.args.index + c.loop-i.i) (sym c.get.ensures ∙ ap option_copied c.in_default.is) in
    omega (arith, end, c.requires.within, c.loop-i-test.true)

pub loop-i-preserved : goal.loop-i-preserved
loop-i-preserved g c =
    let is = c.loop-i.invariant in
    let put = c.push_reserved.ensures in
    record {
      given = one_more g.T.Clone.is_clone _ _ _ c.args.queue.now.messages c.args.index c.loop-i.i c.in-Some.msg.now c.in-Ok.given is.given
          (sym c.get.ensures ∙ ap option_copied c.in-Some.is) c.in-Ok.ensures.cases put.items;
      len = omega (arith, put.len, is.len);
      capacity = put.capacity ∙ is.capacity;
    }
