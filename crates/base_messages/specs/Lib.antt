pub mod Laws
pub mod Messages
pub mod Refusals
