-- The definitions, in the order of reading.
-- what a contract sees of a store
pub mod Stored
-- what a contract sees of cursors
pub mod Cursors
-- the queue and the cursors behind a store
pub mod Sound
