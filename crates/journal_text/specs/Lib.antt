pub mod Reading
pub mod Body
pub mod Printing
pub mod FirstLine
