pub mod Place
pub mod Whole
pub mod Order
