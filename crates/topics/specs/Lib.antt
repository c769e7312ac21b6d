-- the names of topics
pub mod Name
-- requests and their answers
pub mod Request
-- one request to a hub
pub mod Hub
-- lists of requests
pub mod Part
