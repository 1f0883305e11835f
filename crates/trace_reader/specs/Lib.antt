pub mod Reading
pub mod Generating
pub mod Rows
