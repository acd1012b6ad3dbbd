pub mod Place
pub mod Chain
pub mod Whole
