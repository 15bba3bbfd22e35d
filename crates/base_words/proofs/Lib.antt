pub mod Masks
pub mod Rotation
