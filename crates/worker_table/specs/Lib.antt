pub mod Bits
pub mod Table
pub mod Kept
