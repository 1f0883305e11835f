pub mod Pace
pub mod Served
pub mod Tags
pub mod Choices
pub mod Others
pub mod Lifts
