pub mod Groups
pub mod Bitwise
pub mod Widths
pub mod Modulo
