-- The call that is made again is the one that was given, and its caller may still make it. Since
-- each try so far had to wait, who learns of it now learns of it as who made it first.
use Rattle.std.proofs.Common.{◌≡◌, IfSome}
use Rattle.async_broadcast.specs.Ports.{moved_by}
use Rattle.async_broadcast.proofs.lock.Lock.make_until.Given as goal

abbrev pub invariant-loop : goal.invariant-loop
invariant-loop g l =
    (goal.iterator-loop g).can_next l.iterator' × (goal.iterator-loop g).is_finite l.iterator'
    × (l.call ≡ l.fn.call)
    × IfSome (moved_by (g.C.CallOf.call l.fn.call)) (g.J.Caller.Caller.moves l.caller)
    × ((reply : _) (after : _)
    → g.J.CallJournal.learns l.caller (g.C.CallOf.call l.fn.call) reply after
    → g.J.CallJournal.learns l.fn.caller (g.C.CallOf.call l.fn.call) reply after)
