pub mod Hex
pub mod List
pub mod Number
pub mod Words
