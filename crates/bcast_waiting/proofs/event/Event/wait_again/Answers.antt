-- A listener that is listed and not told keeps its position; any other joins last.
use Rattle.bcast_waiting.proofs.Common.{◌≡◌, true, false, cond, sym, ap, ◌∙◌, subst, is_in, untold_ids, join, consume, Event, listeners_of}
use Rattle.std.proofs.lemmas.Result.{on_ok_weaker}
use Rattle.bcast_waiting.proofs.Listeners.{absent_drop}
use Rattle.bcast_waiting.proofs.EventInvariant.{untold_after, untold_before}
use Rattle.bcast_waiting.proofs.event.Event.wait_again.Goals as goal
use Rattle.bcast_waiting.proofs.event.Event.wait_again.Goals.{in_default-via-in-Some+else-position-self, in_default-via-in_default}

pub returns-in-Some-clause-waits : goal.returns-in-Some-clause-waits
returns-in-Some-clause-waits g c =
    let same = g.I.PartialEq.eq in
    let id = c.args.id in
    let now = c.args.self.now in
    let untold : true ≡ is_in same id (untold_ids now.listeners) =
    untold_after c.self.invariant g.met.I.Indexed.test id c.in-Some.position c.in-Some.ensures c.if-position-self.true
    ∙ ap (λ (e : Event g.row.I.Denot). is_in same id (untold_ids e.listeners)) c.self.view_is in
    on_ok_weaker c.renew.result
    (λ _. (λ i. record { listeners = listeners_of (c.renew.ensures.same i).ids c.self.inside.told; room = (c.renew.ensures.same i).room })
    ∙ c.self.view_is
    ∙ ap (λ b. record now { listeners = cond b now.listeners (join id (consume same id now.listeners)) }) untold)
    c.renew.ensures.made

pub list_last-requires-clause-not_untold : goal.list_last-requires-clause-not_untold
list_last-requires-clause-not_untold g c =
    let same = g.I.PartialEq.eq in
    let id = c.args.id in
    elim c.in_default.branch [
      | in_default-via-in-Some+else-position-self w ↦
          (sym (ap (λ (e : Event g.row.I.Denot). is_in same id (untold_ids e.listeners)) c.self.view_is)
          ∙ sym (untold_before c.self.invariant g.met.I.Indexed.test id w.in-Some.position w.in-Some.ensures w.if-position-self.false))
      | in_default-via-in_default w ↦
          (let absent = subst (λ (e : Event g.row.I.Denot). is_in same id e.listeners.ids ≡ false) c.self.view_is w.in_default.ensures in
          absent_drop same id c.args.self.now.listeners.told c.args.self.now.listeners.ids absent)
    ]
