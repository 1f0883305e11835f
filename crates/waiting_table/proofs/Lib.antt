pub mod Entries
pub mod Ordered
pub mod Missing
pub mod Places
pub mod Keys
pub mod Tables
pub mod First
pub mod Found
