pub mod Dealer
pub mod Laws
pub mod Clock
pub mod ClockLaws
