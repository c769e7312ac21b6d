-- The first message goes, and those that read it next read the one behind it.
use Rattle.bcast_queue.proofs.Reading.{sound-popped, seen-popped}
use Rattle.bcast_queue.proofs.Queue.pop.Goals as goal

pub returns-clause-some : goal.returns-clause-some
returns-clause-some g c =
    seen-popped _ _ _ _ c.args.self.now c.self.invariant c.self.view_is _ _ _ _ c.in_ok-entry.entry (record {
      at = c.in_ok-entry.ensures.value;
      rest_is = c.in_ok-entry.ensures.items;
      looked_at = c.change-next.ensures.value;
      owed = c.add_readers.ensures.owed;
      kept = c.add_readers.ensures.messages;
      summed = c.add_readers.ensures.summed;
      capacity = c.add_readers.ensures.capacity;
    })

pub invariant_of-self-2 : goal.invariant_of-self-2
invariant_of-self-2 g c =
    sound-popped _ _ _ _ c.args.self.now c.self.invariant c.self.view_is _ _ _ _ c.in_ok-entry.entry (record {
      at = c.in_ok-entry.ensures.value;
      rest_is = c.in_ok-entry.ensures.items;
      looked_at = c.change-next.ensures.value;
      owed = c.add_readers.ensures.owed;
      kept = c.add_readers.ensures.messages;
      summed = c.add_readers.ensures.summed;
      capacity = c.add_readers.ensures.capacity;
    })
