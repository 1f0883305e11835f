pub mod Making
pub mod Reports
pub mod Serving
pub mod Runs
mod Shapes
