pub mod Pools
pub mod Written
pub mod Asked
pub mod Comparisons
