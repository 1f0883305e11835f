pub mod Notes
pub mod Fills
pub mod Places
pub mod Moves
pub mod Rows
pub mod Kept
pub mod Choices
pub mod Marks
