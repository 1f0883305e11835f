pub mod Noted
pub mod Trees
pub mod Index
