pub mod Dealing
pub mod Laws
pub mod Close
pub mod Opening
