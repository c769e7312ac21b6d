use Rattle.std.proofs.Common.{◌++◌, length, ap, ◌∙◌}
use Rattle.own_channel.proofs.promises.relay.Goals as goal

pub send_all-requires-clause-room : goal.send_all-requires-clause-room
send_all-requires-clause-room c = (c.opens_with_room.ensures _ _ _ c.in_ok-channel.ensures.opened c.in_ok-channel.ensures.valid c.requires.few).0

pub send_all-requires-clause-reader : goal.send_all-requires-clause-reader
send_all-requires-clause-reader c = (c.opens_with_room.ensures _ _ _ c.in_ok-channel.ensures.opened c.in_ok-channel.ensures.valid c.requires.few).1

pub receive_all-requires-clause-count : goal.receive_all-requires-clause-count
receive_all-requires-clause-count c =
    let opened = c.opens_with_room.ensures _ _ _ c.in_ok-channel.ensures.opened c.in_ok-channel.ensures.valid c.requires.few in
    ap length (c.send_all.ensures.added ∙ ap (λ xs. xs ++ c.args.numbers.now) opened.2)

pub returns : goal.returns
returns c =
    let opened = c.opens_with_room.ensures _ _ _ c.in_ok-channel.ensures.opened c.in_ok-channel.ensures.valid c.requires.few in
    rw (c.send_all.ensures.added ∙ ap (λ xs. xs ++ c.args.numbers.now) opened.2) at c.receive_all.ensures
