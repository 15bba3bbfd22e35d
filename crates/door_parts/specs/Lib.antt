pub mod Door
pub mod Laws
