mod Adding
mod Runs
mod Seats
