pub mod Refusals
pub mod Types
pub mod Shapes
pub mod Sized
