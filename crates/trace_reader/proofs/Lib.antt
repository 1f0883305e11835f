mod Places
mod Reached
pub mod Lawful
mod Printed
mod Plain
pub mod Numerals
mod Texts
pub mod ReadBack
mod GeneratedTenants
pub mod Generated
pub mod Sums
pub mod InLimits
