pub mod Orders
pub mod Paths
pub mod Least
pub mod Steps
