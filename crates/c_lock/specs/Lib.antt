pub mod Claims
pub mod Host
