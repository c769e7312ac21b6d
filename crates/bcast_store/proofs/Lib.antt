-- the map of a slab, and how many of its values pass a test
pub mod CursorEntries
pub mod CountValues
-- numbers, and the cursors of a map
pub mod Least
pub mod Owing
-- the counts of a store, and what follows from them
pub mod Counted
-- what the calls do to the counts
pub mod Messages
pub mod Dropping
pub mod Reading
pub mod ReadingMany
pub mod Leaving
