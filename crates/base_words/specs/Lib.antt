pub mod List
pub mod Bytes
pub mod Numbers
pub mod Spelt
pub mod Xor
