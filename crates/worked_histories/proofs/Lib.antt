pub mod Computed
pub mod ComputedGaps
pub mod ComputedLeads
