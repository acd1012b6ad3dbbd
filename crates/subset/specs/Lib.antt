pub mod Subsets
pub mod Answers
pub mod Laws
