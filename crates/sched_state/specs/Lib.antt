pub mod Lists
pub mod Costs
pub mod Keys
pub mod Tracker
pub mod Scheduler
pub mod Replies
pub mod Kept
pub mod Refusals
