pub mod Share
pub mod Claims
