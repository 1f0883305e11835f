pub mod Names
pub mod Journals
pub mod Traces
pub mod Simulations
pub mod Programs
