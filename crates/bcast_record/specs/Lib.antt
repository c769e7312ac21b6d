-- what a contract sees of a seat and of a recorder
pub mod Seats
-- what a recorder stores
pub mod Recording
-- the recorded history replays
pub mod Replay
-- which lists a copy needs
pub mod Copies
