pub mod Takes
pub mod Room
pub mod Limits
pub mod Refusals
pub mod Passes
pub mod Answers
