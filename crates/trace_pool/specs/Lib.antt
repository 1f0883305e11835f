pub mod PoolEnd
pub mod Laws
pub mod Serving
pub mod Places
pub mod Parts
pub mod Hands
pub mod Tokens
