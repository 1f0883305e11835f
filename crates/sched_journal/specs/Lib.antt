pub mod Tally
pub mod Journal
pub mod Stores
