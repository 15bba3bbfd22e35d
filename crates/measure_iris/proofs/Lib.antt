pub mod Claims
pub mod CodeBits
pub mod Refused
