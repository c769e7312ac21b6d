-- the journal
pub mod Prefixes
pub mod Chains
-- claims: a call moves no receiver but its caller's own
pub mod Claimed
-- runs that go on
pub mod Added
pub mod Keeping
pub mod Grown
-- what a receiver finds
pub mod Found
pub mod Received
pub mod Receiving
pub mod Skipped
-- receivers that are made, that leave, and that stay
pub mod Making
-- laws
pub mod Sent
pub mod Logged
pub mod Closed
