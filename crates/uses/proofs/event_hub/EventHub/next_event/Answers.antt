use Rattle.uses.proofs.Hubs.{received_hub}
use Rattle.uses.proofs.event_hub.EventHub.next_event.Goals as goal

pub invariant_of-self-2 : goal.invariant_of-self-2
invariant_of-self-2 g c = received_hub c.in_ok-try_recv.ensures.answers c.self.invariant

pub returns-clause-answers : goal.returns-clause-answers
returns-clause-answers g c = record {
  received = c.in_ok-try_recv.field-0;
  event = c.ok.ensures.value;
  answers = rw (← c.self.view_is) c.in_ok-try_recv.ensures.answers;
}
