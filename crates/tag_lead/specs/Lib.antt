pub mod Faults
pub mod Spans
pub mod Greatest
pub mod Measured
pub mod Doubts
pub mod Maxima
pub mod Leads
