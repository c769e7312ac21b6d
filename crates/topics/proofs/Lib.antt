-- a topic under its name, and its part of the calls
pub mod Topics
-- what one more exchange does
pub mod Parts
