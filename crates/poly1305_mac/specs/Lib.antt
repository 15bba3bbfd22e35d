pub mod Poly1305
pub mod Blocks
pub mod Laws
