pub mod Difference
pub mod Laws
pub mod ElementBytes
pub mod Sums
