use Rattle.std.proofs.Common.{◌≡◌, Some, sym, subst}
use Rattle.std.specs.FinMap.{get, empty}
use Rattle.bcast_model.specs.Words.{View}
use Rattle.bcast_core.proofs.Settle.{inserted}
use Rattle.uses.proofs.Called.{after}
use Rattle.uses.proofs.config_watcher.Config.new.Goals as goal

pub returns-clause-watcher : goal.returns-clause-watcher
returns-clause-watcher g c = after c.set_overflow.ensures (λ u. get u.control.cursors c.in_ok-inner.watcher ≡ Some 0) (λ _. subst (λ (v : View g.row.S.Denot). get v.control.cursors c.in_ok-inner.watcher ≡ Some 0) (sym c.in_ok-inner.ensures.opened) (inserted empty c.in_ok-inner.watcher 0))
