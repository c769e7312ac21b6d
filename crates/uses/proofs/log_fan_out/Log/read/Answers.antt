use Rattle.uses.proofs.LogCalls.{reads}
use Rattle.uses.proofs.log_fan_out.Log.read.Goals as goal

pub invariant_of-self : goal.invariant_of-self
invariant_of-self c = (reads (λ msg given e. e) c.try_recv.result (c.try_recv.ensures.sure (λ _. tt)) c.try_recv.ensures.answers c.self.invariant).0.log

pub returns : goal.returns
returns c =
    let read = reads (λ msg given e. e) c.try_recv.result (c.try_recv.ensures.sure (λ _. tt)) c.try_recv.ensures.answers c.self.invariant in
    record {
      first = rw (c.into_record.ensures, ← c.self.view_is) read.0.first;
      none = rw (c.into_record.ensures, ← c.self.view_is) read.0.none;
      others = rw (← c.self.view_is) read.0.others;
      readers = rw (← c.self.view_is) read.0.readers;
      answers = rw (c.into_record.ensures, ← c.self.view_is) read.1;
    }
