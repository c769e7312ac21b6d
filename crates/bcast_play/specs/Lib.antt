-- what is written of a script, and of lines on topics
pub mod ScriptRun
pub mod TopicsLine
pub mod TopicsRequest
pub mod TopicsRun
-- what is seen of the programs' parts
pub mod Shown
