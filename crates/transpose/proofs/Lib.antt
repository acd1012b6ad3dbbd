pub mod Orders
pub mod Gathering
pub mod Calls
