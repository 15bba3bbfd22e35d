pub mod Dcf
pub mod Comparison
pub mod Interval
