-- what a send without overflow returns
pub mod Sends
-- a signal to stop
pub mod Signal
-- settings that change
pub mod Config
-- events for subscribers that come and go
pub mod Hub
-- what readers are still to read
pub mod Log
-- sends with room, reads in order, and one more receiver
pub mod Reading
