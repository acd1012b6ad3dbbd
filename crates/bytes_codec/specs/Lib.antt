pub mod ByteOrder
pub mod Swapped
pub mod Laws
