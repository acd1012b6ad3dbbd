pub mod Stage
pub mod Single
pub mod Calls
pub mod Gathers
pub mod Elements
pub mod Arrays
