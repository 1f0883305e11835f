mod Filling
mod Windows
pub mod Sizes
mod Waiting
mod Runs
mod Names
mod Order
mod Moved
mod Again
pub mod Least
