pub mod Content
pub mod Pieces
pub mod Laws
pub mod Older
