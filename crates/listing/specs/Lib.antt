pub mod Running
pub mod Listing
