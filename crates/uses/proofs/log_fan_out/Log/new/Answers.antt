use Rattle.uses.proofs.Logs.{new_log}
use Rattle.uses.proofs.log_fan_out.Log.new.Goals as goal

pub returns-clause-reader : goal.returns-clause-reader
returns-clause-reader c = (new_log _ c.in_ok-inner.ensures.opened c.in_ok-inner.ensures.valid).0

pub returns-clause-empty : goal.returns-clause-empty
returns-clause-empty c = (new_log _ c.in_ok-inner.ensures.opened c.in_ok-inner.ensures.valid).1
