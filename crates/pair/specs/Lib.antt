pub mod Compose
pub mod Composition
pub mod ArrayPairs
