pub mod Laws
pub mod Sixteen
