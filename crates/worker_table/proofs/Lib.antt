pub mod Words
pub mod Tables
pub mod Finding
pub mod Changes
