-- The definitions, in the order of reading.
-- what a contract sees
pub mod Queue
-- the ring behind it
pub mod Entries
