pub mod Laws
pub mod Lock
