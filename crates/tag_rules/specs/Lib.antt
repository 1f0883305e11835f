pub mod Keys
pub mod Accounts
pub mod Tables
pub mod Orders
pub mod Passes
pub mod Scan
pub mod Foreseen
