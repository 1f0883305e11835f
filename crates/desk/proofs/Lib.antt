pub mod Keeping
pub mod Own
pub mod Left
pub mod Turned
pub mod Splitting
pub mod Joins
pub mod Reading
