-- the book behind a journal
pub mod Book
-- steps on a channel, whether they are a run of it, and what a call tells its caller of them;
-- a channel before it has a name
pub mod History
-- who calls
pub mod Tracker
pub mod Learning
-- what a receiver is given
pub mod Reader
-- which calls a handle makes, and what follows
pub mod Makes
pub mod Laws
-- several messages in one call
pub mod Batch
-- a log of what a receiver is given
pub mod Log
