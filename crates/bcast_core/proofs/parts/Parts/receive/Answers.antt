use Rattle.bcast_core.proofs.Common.{◌+◌, ◌<◌, ◌≤◌, Ok, inl, refl, sym, ap, ◌∙◌, is_some, arith, common_steps, get, View, sets, settle, cursor_of, is_empty_reply, Stored, control_of, seen_of, insert, None, low_inserted, settle_stays, view-with_cursors, with_cursor, receive, recv_reply}
use Rattle.std.proofs.lemmas.Result.{on_ok_weaker}
use Rattle.bcast_model.proofs.Cases.{lagging_receive}
use Rattle.bcast_core.proofs.Receives.{lagging, at_end, is_there, receive_one, settle_empty, untold_empty}
use Rattle.bcast_core.proofs.Rooms.{room_moved, room_read}
use Rattle.bcast_core.proofs.parts.Parts.receive.Goals as goal
use Rattle.bcast_core.proofs.parts.Parts.receive.Goals.{in-Ok, in-Err, then-self, else-self}

pub returns-then-is_untold-clause-found : goal.returns-then-is_untold-clause-found
returns-then-is_untold-clause-found g c = grind (arith, common_steps, untold_empty)

pub returns-then-is_untold-clause-ok : goal.returns-then-is_untold-clause-ok
returns-then-is_untold-clause-ok g c =
    let untold = sym c.is_untold.ensures ∙ c.if-is_untold.true in
    let empty = ap is_empty_reply (untold_empty c.args.self.now (c.args.key, c.args.kind) c.args.at c.requires.valid untold c.requires.at) in
    sym (settle_empty c.args.self.now _ c.args.key c.args.at c.requires.valid empty refl)

pub returns-then-cursor-front-clause-found : goal.returns-then-cursor-front-clause-found
returns-then-cursor-front-clause-found g c = grind (arith, common_steps, lagging)

pub returns-then-cursor-front-clause-ok : goal.returns-then-cursor-front-clause-ok
returns-then-cursor-front-clause-ok g c =
    let v = c.args.self.now in
    let p = c.self-2.inside in
    let lags : c.in-Some.cursor < v.front = omega (arith, c.if-cursor-front.true, c.front-front.ensures, ap (λ (x : View g.row.T.Denot). x.front) c.self-2.view_is) in
    ap (λ s. seen_of s (control_of s p.places p.sends p.receives p.senders p.inactive p.closed p.overflow p.await_active p.capacity)) c.skip.ensures
    ∙ ap (λ (x : View g.row.T.Denot). record x { control = with_cursor x.control c.args.key x.front }) c.self-2.view_is
    ∙ sym (settle_stays v (with_cursor v.control c.args.key v.front) (low_inserted v.end v.front v.control.cursors c.args.key v.front (omega arith)))
    ∙ ap (λ m. settle v (sets m)) (sym (ap (receive v c.args.key) c.in-Some.is ∙ lagging_receive v c.args.key c.in-Some.cursor lags))

pub invariant_of-self : goal.invariant_of-self
invariant_of-self g c =
    let there = is_there c.args.self.now c.args.key (cursor_of c.args.self.now.control c.args.key) c.args.at c.in-Some.cursor c.in-Some.is c.requires.at in
    let some = ap (λ (v : View g.row.T.Denot). is_some (get v.control.cursors c.args.key)) c.self-2.view_is ∙ there in
    room_moved c.self-2.inside.store.cursors c.skip.new.self.cursors c.args.key c.self-2.inside.store.front c.self-2.inside.receives.room some (ap (λ (s : Stored g.row.T.Denot). s.cursors) c.skip.ensures) c.self-2.invariant

pub invariant_of-self-then-index-len : goal.invariant_of-self-then-index-len
invariant_of-self-then-index-len g c =
    let there = is_there c.args.self.now c.args.key (cursor_of c.args.self.now.control c.args.key) c.args.at c.in-Some.cursor c.in-Some.is c.requires.at in
    let some = ap (λ (v : View g.row.T.Denot). is_some (get v.control.cursors c.args.key)) c.self-2.view_is ∙ there in
    room_read c.read.result c.self-2.inside.store c.read.new.self c.args.key (c.in-Some.cursor + 1) c.self-2.inside.receives.room some c.read.ensures.ok c.read.ensures.err c.self-2.invariant

pub returns-then-index-len-clause-ok : goal.returns-then-index-len-clause-ok
returns-then-index-len-clause-ok g c =
    let v = c.args.self.now in
    let above : v.front ≤ c.in-Some.cursor = omega (arith, c.if-cursor-front.false, c.front-front.ensures, ap (λ (x : View g.row.T.Denot). x.front) c.self-2.view_is) in
    let below : c.in-Some.cursor < v.end = omega (arith, c.if-index-len.true, c.len.ensures, c.front-front.ensures, ap (λ (x : View g.row.T.Denot). x.end) c.self-2.view_is) in
    let ok = on_ok_weaker c.read.result
    (λ is. view-with_cursors c.self-2.inside.store c.read.new.self _ c.self-2.inside.sends c.self-2.inside.receives _ _ _ _ _ _ (λ m. insert m c.args.key (c.in-Some.cursor + 1)) v is c.self-2.view_is
    ∙ ap (λ m. settle v (sets m)) (sym (receive_one v c.args.key c.args.at c.in-Some.cursor c.in-Some.is above below)))
    c.read.ensures.ok in
    elim c.match-read.branch [
      | in-Ok w ↦ rw w.result-is (rw w.in-Ok.is at ok)
      | in-Err w ↦ rw w.result-is tt
    ]

pub returns-clause-found : goal.returns-clause-found
returns-clause-found g c =
    let v = c.args.self.now in
    let closed = ap (λ (x : View g.row.T.Denot). x.control.closed) c.self-2.view_is in
    let front : v.front ≤ c.in-Some.cursor = omega (arith, c.if-cursor-front.false, c.front-front.ensures, ap (λ (x : View g.row.T.Denot). x.front) c.self-2.view_is) in
    let end : v.end ≤ c.in-Some.cursor = omega (arith, c.if-index-len.false, c.len.ensures, c.front-front.ensures, ap (λ (x : View g.row.T.Denot). x.end) c.self-2.view_is) in
    let exact = sym (at_end v c.args.at c.in-Some.cursor c.requires.valid c.in-Some.is front end) in
    elim c.if-self.branch [
      | then-self w ↦ inl (w.result-is ∙ ap Ok (ap (λ b. recv_reply b None) (sym w.if-self.true ∙ closed) ∙ exact))
      | else-self w ↦ inl (w.result-is ∙ ap Ok (ap (λ b. recv_reply b None) (sym w.if-self.false ∙ closed) ∙ exact))
    ]
