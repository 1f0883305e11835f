pub mod Buckets
pub mod Reasons
pub mod Laws
