pub mod Asked
pub mod Strays
pub mod Lengths
pub mod Reading
pub mod Gaps
