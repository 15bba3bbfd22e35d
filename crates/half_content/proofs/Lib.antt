pub mod Laws
pub mod Older
