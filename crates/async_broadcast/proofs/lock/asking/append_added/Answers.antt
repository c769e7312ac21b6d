-- A call that was to add a receiver may always be made, and moves none.
use Rattle.async_broadcast.proofs.Adding.{adding_allowed, adding_moves_none}
use Rattle.async_broadcast.proofs.lock.asking.append_added.Goals as goal

pub append-requires-clause-capacity : goal.append-requires-clause-capacity
append-requires-clause-capacity g c = rw c.of-asked.ensures (adding_allowed _ c.args.call)

pub append-requires-clause-moves : goal.append-requires-clause-moves
append-requires-clause-moves g c = rw c.of-asked.ensures (adding_moves_none _ _ c.args.call)
