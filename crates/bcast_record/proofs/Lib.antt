-- one more entry, and its note
pub mod Entries
-- the list that a reply hands back
pub mod Copies
