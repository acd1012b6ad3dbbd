pub mod Fletcher32
pub mod Laws
pub mod Folds
