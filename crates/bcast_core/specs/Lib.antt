-- how the state of a channel is put together
pub mod Parts
-- what a snapshot of a channel says
pub mod Snapshot
-- how often the stream looks for a message
pub mod Tries
-- the four polls, and what the three receives among them differ in
pub mod Polls
-- who waits, and who is told of a message that was accepted
pub mod Telling
-- which replies belong to which calls
pub mod Kinds
-- which call each value of a type of calls is
pub mod Calls
-- receives in a row
pub mod Batch
