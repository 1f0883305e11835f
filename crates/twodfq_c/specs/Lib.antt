pub mod Owned
pub mod Held
pub mod Replies
pub mod Answering
pub mod Entries
pub mod Opening
pub mod Statuses
pub mod Finding
