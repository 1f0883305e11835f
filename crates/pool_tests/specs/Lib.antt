pub mod Hired
pub mod Watched
