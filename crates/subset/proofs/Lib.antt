pub mod Sizes
pub mod Joined
pub mod Slabs
pub mod Reading
pub mod Writing
pub mod Subsets
pub mod Elements
