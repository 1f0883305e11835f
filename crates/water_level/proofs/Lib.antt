pub mod Sums
pub mod TheOne
pub mod Left
