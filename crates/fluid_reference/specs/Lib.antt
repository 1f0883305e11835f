pub mod Slots
pub mod Owned
