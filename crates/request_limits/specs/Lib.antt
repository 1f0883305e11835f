pub mod Limits
pub mod Next
pub mod Kept
pub mod Laws
