-- what a port may reply, how handles are seen, and what a snapshot through one says
pub mod Ports
-- the replies of a channel are of their calls' kinds
pub mod OfKind
-- handles that are made
pub mod Handles
-- futures and streams, and the waker of a task
pub mod Futures
-- the notice of a poll, made for its task
pub mod Made
-- how waiting threads are counted, and which of them are woken
pub mod Counted
pub mod Woken
-- calls with a limit, and a loop that blocks
pub mod Timed
-- several messages in one call
pub mod Batch
