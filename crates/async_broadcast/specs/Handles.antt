-- What a call returns that makes a handle.
use Rattle.std.specs.Prelude.{◌≡◌, ◌⊎◌, Result, Ok, Err, IfOk, IfErr}
use Rattle.bcast_model.specs.declared.error.HandleError.TheVariants as handle
use Rattle.bcast_model.specs.declared.error.HandleError.{HandleError}
use Rattle.bcast_model.specs.declared.run.Call.{Call}
use Rattle.bcast_model.specs.declared.run.Reply.{Reply}
use Rattle.async_broadcast.specs.declared.handle.Handle.{Handle}
use Rattle.async_broadcast.specs.Ports.{IsSame}

-- a handle over another port of the same channel, by this call, whose reply has this value of the
-- handle; or why there is none: the port had no memory for another one, or the channel refused
pub record MakesHandle {T P H A V : Type 0} (gave : P → Call T → Reply T → Type 0)
    (lacks_memory : P → Type 0) (port : P) (call : Call T)
    (reply : Result V HandleError → Reply T) (value : Handle T P H A → V)
    (result : Result (Handle T P H A) HandleError) : Type 0 where
  pub channel : IfOk result (λ made. IsSame gave made.port port)
  pub made : IfOk result (λ made. gave port call (reply (Ok (value made))))
  pub refused : IfErr result (λ error.
      ((error ≡ handle.Memory) × lacks_memory port) ⊎ gave port call (reply (Err error)))
