-- calls that add a receiver
pub mod Adding
-- receives in a row
pub mod Batches
