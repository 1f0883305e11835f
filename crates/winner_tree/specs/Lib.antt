pub mod Order
pub mod Winners
pub mod Laws
