pub mod Open
pub mod Clock
