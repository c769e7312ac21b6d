-- what every call leaves
pub mod Called
-- a text for two receivers
pub mod OneMessage
-- a signal to stop
pub mod Signals
-- settings that change
pub mod Configs
pub mod Looks
-- events
pub mod Hubs
-- what readers are still to read
pub mod Logs
pub mod LogCalls
pub mod Rooms
