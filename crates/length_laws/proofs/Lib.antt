pub mod Costs
pub mod Foretold
pub mod Within
