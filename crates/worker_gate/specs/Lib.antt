pub mod Moments
pub mod Running
pub mod Serving
pub mod Feeding
pub mod Watching
pub mod Hands
