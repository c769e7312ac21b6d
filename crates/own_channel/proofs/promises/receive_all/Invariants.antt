use Rattle.std.proofs.Common.{◌≡◌, ◌++◌, ◌+◌, length}
use Rattle.uses.specs.Log.{unread, IsLog}
use Rattle.own_channel.proofs.promises.receive_all.Given as goal

abbrev pub invariant-loop : goal.invariant-loop
invariant-loop l =
    IsLog l.channel × (l.got.items ++ unread l.channel l.reader ≡ unread l.initial.channel l.reader)
    × (length (unread l.channel l.reader) + l.counter ≡ l.count)
