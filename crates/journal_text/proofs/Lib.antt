mod Heads
pub mod Kept
mod FirstLine
mod WordEnds
pub mod AtOnce
mod Names
pub mod HeadLimits
pub mod Bodies
