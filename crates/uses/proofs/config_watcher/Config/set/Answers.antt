use Rattle.std.proofs.lemmas.Result.{on_ok_weaker}
use Rattle.uses.proofs.Configs.{set_latest}
use Rattle.uses.proofs.config_watcher.Config.set.Goals as goal

pub returns-clause-latest : goal.returns-clause-latest
returns-clause-latest g c = on_ok_weaker c.into_settings.result (λ s. s.0) (set_latest c.try_broadcast.ensures c.self.invariant c.into_settings.ensures)

pub returns-clause-counted : goal.returns-clause-counted
returns-clause-counted g c = rw (← c.self.view_is) (on_ok_weaker c.into_settings.result (λ s. s.1) (set_latest c.try_broadcast.ensures c.self.invariant c.into_settings.ensures))
