-- what is claimed, after a key is claimed, or its claim given up
pub mod Claims
-- what a registry and a claim own: how it changes, and that it may be sent
mod Owned
mod Sent
-- for the proofs by hand: what they take from the logic, and an `Option<u64>`
mod Walks
mod Number
