-- The calls, the replies and the errors that the sources declare, from one place for this crate.
pub use Rattle.bcast_model.specs.declared.error.TrySendError.{TrySendError}
pub use Rattle.bcast_model.specs.declared.error.TryRecvError.{TryRecvError}
pub use Rattle.bcast_model.specs.declared.error.RecvError.{RecvError}
pub use Rattle.bcast_model.specs.declared.error.HandleError.{HandleError}
pub use Rattle.bcast_model.specs.declared.run.SendPoll.{SendPoll}
pub use Rattle.bcast_model.specs.declared.run.Call.{Call}
pub use Rattle.bcast_model.specs.declared.run.Reply.{Reply}
