pub mod Copies
pub mod Fitting
pub mod Judging
pub mod Turns
pub mod OneVerdict
pub mod OneExplanation
