pub mod AccountSteps
pub mod Ranges
pub mod Comparing
pub mod Scanning
pub mod Shorter
