pub mod Estimate
pub mod Tables
pub mod AnyCost
