pub mod Sound
pub mod Rows
pub mod Steps
pub mod Refusals
