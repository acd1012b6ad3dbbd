pub mod Numbers
pub mod Seats
pub mod Loops
