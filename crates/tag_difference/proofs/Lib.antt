pub mod Prefixes
pub mod FoundLemmas
