pub mod Room
pub mod Kept
pub mod Runs
pub mod Laws
