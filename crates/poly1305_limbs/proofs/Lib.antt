pub mod Chain
pub mod Limbs
