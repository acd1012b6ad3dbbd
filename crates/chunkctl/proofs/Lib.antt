mod Called
mod Listing
