pub mod Clock
pub mod Idles
pub mod Lingering
pub mod Histories
