pub mod Lists
pub mod Words
pub mod Lengths
pub mod Arguments
pub mod Defaults
pub mod Ranges
pub mod InRange
pub mod FirstWord
