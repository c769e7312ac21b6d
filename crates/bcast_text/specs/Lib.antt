-- how an input is read, and how a run ends
pub mod Lines
pub mod Run
pub mod Ending
-- the words of a line
pub mod Words
-- scripts: arguments, lines and the names in them, what a line does to the channel, and its answer
pub mod ScriptCommand
pub mod Name
pub mod ScriptLine
pub mod ScriptCall
pub mod ScriptAnswer
-- threads: what receivers saw, and what a run prints
pub mod Order
pub mod Outcome
