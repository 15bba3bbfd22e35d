pub mod Iris
pub mod CodeBits
pub mod Laws
pub mod Claims
