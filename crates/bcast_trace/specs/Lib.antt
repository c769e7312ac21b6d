-- new capacities are positive: in a line, and in lists of calls
pub mod Line
pub mod Positive
