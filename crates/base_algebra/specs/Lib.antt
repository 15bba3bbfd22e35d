pub mod Mod
pub mod Normal
pub mod Ring
pub mod Integer
pub mod Word
pub mod Bit
pub mod Sum
