pub mod Node
pub mod Claims
pub mod Bounds
pub mod Nonce
