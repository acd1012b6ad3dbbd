pub mod Bytewise
pub mod Elements
pub mod Gathers
pub mod OneSingle
pub mod Passing
pub mod Refusing
pub mod Undoing
