-- All lists are this one, which has each number that was to be sent, and no more.
use Rattle.std.proofs.Common.{rules, ◌≡◌, ◌*◌, [], ◌∷◌, List, ◌++◌, All, Vec, ℕ, Global, refl, sym, ◌∙◌, subst, arith, length}
use Rattle.std.proofs.lemmas.Bool.{OnTrue_at}
use Rattle.std.proofs.lemmas.List.Elements.{All-push, All-weaker}
use Rattle.bcast_text.specs.Order.{HoldsEachOnce}
use Rattle.bcast_threads.proofs.Sent.{contained}
use Rattle.bcast_threads.proofs.lists.lists_received.Goals as goal

pub returns : goal.returns
returns g c =
    let list = c.into_list-list.result in
    let others = c.in_ok-lists.lists.items in
    let total = c.in_ok-total.total in
    let is = c.into_list-list.ensures in
    let counted : total ≡ c.args.plan.senders * c.args.plan.messages = search rules in
    let long : length list.items ≡ total = omega (arith, c.if-len-total.false) in
    let IsThis : Vec ℕ Global → Type 0 = λ its. its.items ≡ list.items in
    let HasEach : Vec ℕ Global → Type 0 = λ its. HoldsEachOnce its.items (c.args.plan.senders * c.args.plan.messages) in
    let all : All IsThis (others ++ list ∷ []) =
    All-push IsThis others list (All-weaker _ IsThis (λ its same. same ∙ sym is) others c.in_ok-lists.ensures.same) refl in
    let once : HoldsEachOnce list.items total = (
      long,
      λ number below. contained _ number (rw is (OnTrue_at c.if-not-are_sent.false c.are_all_sent-are_sent.ensures.sent number (omega arith) below)),
    ) in
    let each : (its : Vec ℕ Global) → IsThis its → HasEach its =
    λ its same. subst (λ (items : List ℕ). HoldsEachOnce items (c.args.plan.senders * c.args.plan.messages)) (sym same) (rw (← counted) once) in
    rw c.in_ok-push.ensures.items
    (record { count = search rules; same = (list.items, all); each = All-weaker IsThis HasEach each (others ++ list ∷ []) all })
