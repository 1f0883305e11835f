pub mod Steps
pub mod Always
