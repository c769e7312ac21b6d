-- The lemmas, in the order in which they build on one another.
-- counts that never fall, and those at the front
pub mod Owed
-- the counts of a changed queue, index by index, for the crates above
pub mod Pointwise
-- the counts of owing readers, by how many read each message next
pub mod OwedBy
-- the messages at the front that no reader owes
pub mod Unowed
-- a ring of which one entry changes
pub mod Entries
-- what a contract sees of a queue
pub mod Queues
-- the first message goes; a reader moves on, past messages that others owe too
pub mod Reading
