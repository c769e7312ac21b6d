-- The messages so far are taken out.
use Rattle.std.proofs.Common.{◌≡◌, ◌+◌, ◌-◌, ◌*◌, ◌<◌, ◌≤◌, ◌++◌, take, get_or, vec_len, vec_capacity}
use Rattle.bcast_queue.specs.Queue.{without}
use Rattle.bcast_queue.proofs.Queue.take_own.Given as goal

abbrev pub invariant-loop-taken : goal.invariant-loop-taken
invariant-loop-taken g l =
    record {
      rest : l.self ≡ without l.taken l.initial.self;
      taken : l.msgs.items ≡ l.initial.msgs.items ++ take l.taken l.initial.self.messages;
      own : 0 < l.taken → get_or l.initial.self.owed (l.taken - 1) 0 ≡ 1;
      len : vec_len l.msgs ≡ vec_len l.initial.msgs + l.taken;
      capacity : vec_capacity l.msgs ≡ vec_capacity l.initial.msgs;
      steps : g.C.Counter.total l.steps ≤ g.C.Counter.total l.initial.steps + 2 * l.taken;
    }
