pub mod Requests
pub mod Tenants
pub mod Estimates
pub mod Limits
pub mod Changes
