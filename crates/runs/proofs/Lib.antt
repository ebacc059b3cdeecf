pub mod Insides
pub mod Orders
pub mod Halved
pub mod Invariant
pub mod Steps
pub mod Runs
