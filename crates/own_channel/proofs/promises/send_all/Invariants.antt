use Rattle.std.proofs.Common.{◌≡◌, ◌-◌, ◌++◌, length, take}
use Rattle.uses.specs.Log.{unread, IsReader}
use Rattle.uses.specs.Reading.{HasRoom}
use Rattle.own_channel.proofs.promises.send_all.Given as goal

abbrev pub invariant-loop-number : goal.invariant-loop-number
invariant-loop-number l =
    HasRoom l.channel (length l.numbers - l.number-index) × IsReader l.channel l.reader
    × (unread l.channel l.reader ≡ unread l.initial.channel l.reader ++ take l.number-index l.numbers)
