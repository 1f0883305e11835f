pub mod Judged
pub mod Turns
pub mod Laws
