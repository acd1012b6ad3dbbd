pub mod Names
pub mod Drafting
