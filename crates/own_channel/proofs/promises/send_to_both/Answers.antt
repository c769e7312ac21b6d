use Rattle.std.proofs.Common.{◌++◌, ◌∷◌, [], ap, ◌∙◌}
use Rattle.own_channel.proofs.promises.send_to_both.Goals as goal

pub unreachable-requires : goal.unreachable-requires
unreachable-requires c =
    let added = c.clones_with_room.ensures _ _ _ _ c.in_ok-second.ensures c.requires.room.log in
    let sent = c.sends_with_room.ensures _ _ _ 0 _ c.try_broadcast.ensures (added.room 1 c.requires.room) in
    let ok = rw c.in-Err.is at sent.ok in
    cc

-- the clone's key is new, so the first receiver keeps what it is still to read
pub returns-clause-first : goal.returns-clause-first
returns-clause-first c =
    let added = c.clones_with_room.ensures _ _ _ _ c.in_ok-second.ensures c.requires.room.log in
    let sent = c.sends_with_room.ensures _ _ _ 0 _ c.try_broadcast.ensures (added.room 1 c.requires.room) in
    sent.added c.args.first (added.readers c.args.first c.requires.reader)
    ∙ ap (λ xs. xs ++ c.args.number ∷ []) (added.others c.args.first (added.fresh c.args.first c.requires.reader))

pub returns-clause-second : goal.returns-clause-second
returns-clause-second c =
    let added = c.clones_with_room.ensures _ _ _ _ c.in_ok-second.ensures c.requires.room.log in
    let sent = c.sends_with_room.ensures _ _ _ 0 _ c.try_broadcast.ensures (added.room 1 c.requires.room) in
    sent.added c.in_ok-second.second added.reader ∙ ap (λ xs. xs ++ c.args.number ∷ []) added.starts
