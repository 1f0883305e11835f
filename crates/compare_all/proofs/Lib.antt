pub mod Firsts
pub mod Spreads
pub mod Made
