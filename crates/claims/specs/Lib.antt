-- the numbers with which keys are claimed
pub mod Claims
-- what a registry and a claim own
pub mod Owned
