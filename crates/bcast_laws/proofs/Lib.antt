-- sends, and refused calls
pub mod Sends
pub mod Refusals
-- receivers, and the messages that are kept
pub mod Answers
pub mod Unread
-- a closed channel
pub mod Closing
-- whole runs
pub mod Order
-- a list that is sent at once
pub mod SendAll
