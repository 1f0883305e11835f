pub mod Examples
pub mod Paced
pub mod Served
pub mod Withdrawn
pub mod Gaps
