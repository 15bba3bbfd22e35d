pub mod Search
pub mod Table
pub mod Laws
pub mod Claims
pub mod Turns
