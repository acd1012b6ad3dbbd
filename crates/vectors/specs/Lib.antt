pub mod Kind
pub mod Line
pub mod Params
pub mod Tally
pub mod Lengths
