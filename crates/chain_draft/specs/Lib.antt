pub mod Draft
pub mod Laws
pub mod Seal
