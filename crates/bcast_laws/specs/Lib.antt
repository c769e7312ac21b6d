-- in reading order: what a send adds, and what a refused call leaves as it was
pub mod Sends
-- what calls on a closed channel return
pub mod Closing
-- what receives return, and how many messages are kept
pub mod Receives
-- how much a receiver has still to read
pub mod Unread
-- what the receivers of a whole run are given
pub mod Order
-- a list that is sent at once
pub mod SendAll
