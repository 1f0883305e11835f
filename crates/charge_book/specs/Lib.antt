pub mod Rows
pub mod Book
pub mod Refusal
pub mod Histories
