pub mod Asking
pub mod Counting
pub mod Logs
pub mod Rules
pub mod Slices
pub mod Stepping
