pub mod Measure
pub mod Order
pub mod Laws
