-- what the threads sent and received
pub mod Lists
