pub mod ByTenant
pub mod NumberedHeads
pub mod GapPasts
