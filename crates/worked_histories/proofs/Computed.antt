pub mod Histories
pub mod Choice
pub mod Legal
pub mod Paces
