pub mod Numbered
pub mod ByTenant
pub mod Gaps
