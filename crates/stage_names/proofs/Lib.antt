mod WordLaws
pub mod Adding
mod Chains
