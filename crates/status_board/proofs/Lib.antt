pub mod Lists
pub mod Statuses
pub mod Stages
pub mod Opening
pub mod Sharing
pub mod Reading
pub mod Writing
