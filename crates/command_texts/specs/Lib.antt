pub mod Making
pub mod Histories
pub mod Serving
