pub mod Demand
pub mod Lists
pub mod Numbers
pub mod Overlap
pub mod Refusals
pub mod States
pub mod Trial
