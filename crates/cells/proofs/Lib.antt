pub mod Overwriting
pub mod Paging
