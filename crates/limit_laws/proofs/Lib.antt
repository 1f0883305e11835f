pub mod Numbers
pub mod Paces
pub mod Keys
pub mod Alike
pub mod Legal
pub mod Replies
