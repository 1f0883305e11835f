pub mod Histories
pub mod Views
pub mod Rule
pub mod Plays
pub mod Passes
pub mod Last
pub mod Laws
pub mod Echoes
