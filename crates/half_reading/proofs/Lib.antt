pub mod Read
pub mod Checked
