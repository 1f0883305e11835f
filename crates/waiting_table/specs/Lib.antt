pub mod Table
pub mod Due
pub mod Order
pub mod Kept
pub mod Laws
