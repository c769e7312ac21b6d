-- the lists of listeners
pub mod Lists
pub mod Listeners
pub mod Waiting
-- what the parts of a call keep
pub mod Least
pub mod Cases
pub mod Sound
pub mod Views
pub mod Lift
pub mod Kept
-- the calls
pub mod Sends
pub mod SendAll
pub mod Receives
pub mod Making
pub mod Calls
-- histories and their views
pub mod Answers
pub mod Opening
-- the laws
pub mod Clones
pub mod Polls
pub mod ListLaws
pub mod Rest
pub mod ToldPolls
-- what a run gives its receivers
pub mod DeliveryLists
pub mod DeliveryMaps
pub mod DeliveryCursors
pub mod DeliveryAnswers
pub mod DeliverySteps
pub mod DeliveryLemmas
pub mod DroppedByCalls
pub mod RisingNumbers
pub mod MissedSteps
pub mod MissedLemmas
