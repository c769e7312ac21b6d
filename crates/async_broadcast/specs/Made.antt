-- What the maker of a poll's notice does for its task.
use Rattle.std.specs.Prelude.{◌≡◌, Bool}
use Rattle.futures.specs.Task.{IsArmed, Keeps}
use Rattle.async_broadcast.specs.declared.wake.ForTask.{ForTask}

-- it has registered its task in its context, and was refused a notice or not; it lends what it lent
-- before
pub record RegistersTask (answer : Bool) (old new : ForTask) : Type 0 where
  pub registered : IsArmed new.cx.now
  pub kept : Keeps old.cx.now new.cx.now
  pub refused : new.task.now.is_refused ≡ answer
  pub same_task : new.task.ghost_name ≡ old.task.ghost_name
  pub same_cx : new.cx.ghost_name ≡ old.cx.ghost_name
