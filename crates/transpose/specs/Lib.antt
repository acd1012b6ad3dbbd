pub mod Transpose
pub mod Transposed
pub mod Gatherings
