-- Calls that add a receiver.
use Rattle.std.proofs.Common.{ℕ, IfSome, arith}
use Rattle.bcast_core.specs.declared.calls.handles.AddReceiver.{AddReceiver}
use Rattle.bcast_core.specs.Calls.{receiver_call}
use Rattle.bcast_model.specs.Words.{HasPositiveCapacity}
use Rattle.async_broadcast.specs.Ports.{moved_by}

-- they are always allowed
pub adding_allowed : (T : Type 0) (c : AddReceiver) → HasPositiveCapacity (receiver_call {T = T} c)
adding_allowed T c = grind arith

-- and move no receiver
pub adding_moves_none : (T : Type 0) (Own : ℕ → Type 0) (c : AddReceiver)
    → IfSome (moved_by (receiver_call {T = T} c)) Own
adding_moves_none T Own c = grind arith
