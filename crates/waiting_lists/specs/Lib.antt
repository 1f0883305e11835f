pub mod Lists
pub mod Linked
pub mod Cells
pub mod Kept
