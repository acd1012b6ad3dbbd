pub mod Refusals
pub mod Answers
pub mod Types
pub mod Shapes
pub mod Forms
