pub mod Slices
pub mod Stepping
