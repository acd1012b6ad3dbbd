pub mod Empty
pub mod Emptiness
pub mod Chosen
pub mod Choosing
