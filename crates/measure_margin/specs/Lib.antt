pub mod Margin
pub mod Moves
pub mod Claims
pub mod Laws
pub mod Cases
