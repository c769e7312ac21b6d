-- A clone of each message so far is put.
use Rattle.std.proofs.Common.{◌≡◌, ◌+◌, take, drop, vec_len, vec_capacity}
use Rattle.std.specs.List.{AppendsClones}
use Rattle.bcast_store.proofs.readers.put_clones.Given as goal

abbrev pub invariant-loop-i : goal.invariant-loop-i
invariant-loop-i g l =
    record {
      given : AppendsClones g.T.Clone.is_clone l.initial.msgs.items l.msgs.items (take l.i (drop l.index l.queue.messages));
      len : vec_len l.msgs ≡ vec_len l.initial.msgs + l.i;
      capacity : vec_capacity l.msgs ≡ vec_capacity l.initial.msgs;
    }
