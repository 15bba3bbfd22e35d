pub mod Party
pub mod Laws
pub mod Claims
